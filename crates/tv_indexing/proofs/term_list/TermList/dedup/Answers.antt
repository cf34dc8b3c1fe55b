use Rattle.std.proofs.Common.{arith, length, ap, ◌∙◌}
use Rattle.std.proofs.lemmas.List.Filters.{All-dedup}
use Rattle.std.specs.List.{All, dedup}
use Rattle.std.specs.Prelude.{bytes_eq}
use Rattle.tv_indexing.specs.TermPlaces.{IsWithin}
use Rattle.tv_indexing.proofs.Places.{AreHeld-moved, all-within, pieces-dedup}
use Rattle.tv_indexing.proofs.term_list.TermList.dedup.Goals as goal

pub invariant_of-self : goal.invariant_of-self
invariant_of-self c =
    let bytes = c.self.inside.bytes.items in
    let places = c.self.inside.places.items in
    let within = all-within bytes places c.self.inside.moved c.self.invariant in
    let kept : All (IsWithin (length bytes)) c.dedup_places.new.places.items = rw c.dedup_places.ensures (All-dedup _ (IsWithin (length bytes)) places within) in
    AreHeld-moved bytes c.dedup_places.new.places.items _ (omega (arith, c.len.ensures, c.dedup_places.new.places.ok.0)) (omega (arith, c.len-2.ensures, c.self.inside.bytes.ok.0)) kept

pub returns : goal.returns
returns c =
    rw (c.dedup_places.ensures, c.as_slice.ensures.value) (pieces-dedup c.self.inside.bytes.items bytes_eq c.self.inside.places.items ∙ ap (dedup bytes_eq) c.self.view_is)
