use Rattle.std.proofs.Common.{arith, length, subst, IsPermutation}
use Rattle.std.proofs.lemmas.List.Sorted.{All-permutation, IsPermutation-map}
use Rattle.tv_indexing.specs.TermPlaces.{IsWithin, bytes_at, pieces}
use Rattle.tv_indexing.proofs.Places.{AreHeld-moved, all-within, pieces-sorted}
use Rattle.tv_indexing.proofs.term_list.TermList.sort.Goals as goal

pub invariant_of-self : goal.invariant_of-self
invariant_of-self c =
    let bytes = c.self.inside.bytes.items in
    let places = c.self.inside.places.items in
    let within = all-within bytes places c.self.inside.moved c.self.invariant in
    let kept = All-permutation (IsWithin (length bytes)) places c.sort_places.new.places.items c.sort_places.ensures.permutation within in
    AreHeld-moved bytes c.sort_places.new.places.items _ (omega (arith, c.len.ensures, c.sort_places.new.places.ok.0)) (omega (arith, c.len-2.ensures, c.self.inside.bytes.ok.0)) kept

pub returns-clause-permutation : goal.returns-clause-permutation
returns-clause-permutation c =
    let bytes = c.self.inside.bytes.items in
    subst (λ old. IsPermutation old (pieces bytes c.sort_places.new.places.items)) c.self.view_is (IsPermutation-map (bytes_at bytes) c.self.inside.places.items c.sort_places.new.places.items c.sort_places.ensures.permutation)

pub returns-clause-sorted : goal.returns-clause-sorted
returns-clause-sorted c =
    pieces-sorted c.self.inside.bytes.items c.sort_places.new.places.items (rw c.as_slice.ensures.value at c.sort_places.ensures.sorted)
