use Rattle.std.proofs.Common.{◌≤◌, length, Some, ap, sym, ◌∙◌, arith, rules}
use Rattle.std.proofs.lemmas.List.{length-map}
use Rattle.std.proofs.lemmas.Option.{slice_get_past}
use Rattle.std.specs.Prelude.{slice_get}
use Rattle.tv_indexing.specs.TermPlaces.{bytes_at}
use Rattle.tv_indexing.proofs.Places.{found_long, piece_found}
use Rattle.tv_indexing.proofs.term_list.TermList.term.Goals as goal

pub returns-in_err-wrap-in-Some-clause-memory : goal.returns-in_err-wrap-in-Some-clause-memory
returns-in_err-wrap-in-Some-clause-memory c =
    let bytes = c.self.inside.bytes.items in
    let places = c.self.inside.places.items in
    let at = rw c.deref.ensures.value at c.in-Some.ensures.lookup.3 in
    let long = found_long bytes places c.self.inside.moved c.args.index c.in-Some.place.now c.self.invariant at.0 (at.1 c.in-Some.place.now) in
    let memory = (c.in_err-wrap-in-Some.ensures.made (rw (c.term_at-bytes.ensures, c.as_slice.ensures.value) long)).errors in
    search (rules, memory)

pub returns-in_ok-wrap-in-Some-clause-found : goal.returns-in_ok-wrap-in-Some-clause-found
returns-in_ok-wrap-in-Some-clause-found c =
    let bytes = c.self.inside.bytes.items in
    let places = c.self.inside.places.items in
    let at = rw c.deref.ensures.value at c.in-Some.ensures.lookup.3 in
    let long = found_long bytes places c.self.inside.moved c.args.index c.in-Some.place.now c.self.invariant at.0 (at.1 c.in-Some.place.now) in
    let made = (c.in_ok-wrap-in-Some.ensures.made (rw (c.term_at-bytes.ensures, c.as_slice.ensures.value) long)).made in
    let found = piece_found bytes places c.args.index c.in-Some.place.now at.0 (at.1 c.in-Some.place.now) in
    ap Some (made ∙ c.term_at-bytes.ensures ∙ ap (λ all. bytes_at all c.in-Some.place.now) c.as_slice.ensures.value) ∙ found ∙ ap (λ terms. slice_get terms c.args.index) c.self.view_is

pub returns-in-None-clause-found : goal.returns-in-None-clause-found
returns-in-None-clause-found c =
    let past : length c.self.inside.places.items ≤ c.args.index = rw c.deref.ensures.value at c.in-None.ensures.lookup.3 in
    let size = length-map c.self.inside.places.items (bytes_at c.self.inside.bytes.items) in
    sym (slice_get_past c.args.self.now c.args.index (omega (arith, past, sym size ∙ ap length c.self.view_is)))
