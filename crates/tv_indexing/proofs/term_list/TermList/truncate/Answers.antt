use Rattle.std.proofs.Common.{◌≡◌, ◌≤◌, length, take, arith, ap, ◌∙◌, sym}
use Rattle.std.proofs.lemmas.List.{length-map}
use Rattle.tv_indexing.specs.TermPlaces.{bytes_at}
use Rattle.tv_indexing.proofs.Places.{AreHeld-truncated, kept_end, pieces-truncated}
use Rattle.tv_indexing.proofs.term_list.TermList.truncate.Goals as goal

few : (c : goal.After-truncate-2) → c.args.len ≤ length c.self.inside.places.items
few c =
    let same : length c.self.inside.places.items ≡ length c.args.self.now = sym (length-map c.self.inside.places.items (bytes_at c.self.inside.bytes.items)) ∙ ap length c.self.view_is in
    omega (arith, same, c.requires)

end_is : (c : goal.After-truncate-2) → c.end_of-end.result ≡ kept_end c.self.inside.moved c.self.inside.places.items c.args.len
end_is c =
    rw (c.min-self-inside.ensures, c.as_slice.ensures.value, c.truncate.ensures.items) at c.end_of-end.ensures

pub invariant_of-self : goal.invariant_of-self
invariant_of-self c =
    rw (c.truncate-2.ensures.items, c.truncate.ensures.items, end_is c, c.min-self-inside.ensures)
    (AreHeld-truncated c.self.inside.bytes.items c.self.inside.places.items c.self.inside.moved c.args.len (few c) c.self.invariant)

pub returns : goal.returns
returns c =
    rw (c.truncate-2.ensures.items, c.truncate.ensures.items, end_is c)
    (pieces-truncated c.self.inside.bytes.items c.self.inside.places.items c.self.inside.moved c.args.len (few c) c.self.invariant ∙ ap (take c.args.len) c.self.view_is)
