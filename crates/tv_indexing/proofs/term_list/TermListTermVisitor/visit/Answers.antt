use Rattle.std.proofs.Common.{◌++◌, ◌∷◌, [], ap, ◌∙◌}
use Rattle.tv_indexing.proofs.Places.{AreHeld-push, all-within, pieces-push}
use Rattle.tv_indexing.proofs.term_list.TermListTermVisitor.visit.Goals as goal

pub invariant_of-self : goal.invariant_of-self
invariant_of-self c =
    rw (c.in-Ok.ensures.place, c.in-Ok.ensures.bytes) (AreHeld-push c.self.inside.bytes.items c.args.term.now c.self.inside.places.items c.self.inside.moved c.requires c.self.invariant)

pub returns-in-Ok-clause-made : goal.returns-in-Ok-clause-made
returns-in-Ok-clause-made c =
    let within = all-within c.self.inside.bytes.items c.self.inside.places.items c.self.inside.moved c.self.invariant in
    rw (c.in-Ok.ensures.place, c.in-Ok.ensures.bytes) (pieces-push c.self.inside.bytes.items c.args.term.now c.self.inside.places.items within
    ∙ ap (λ terms. terms ++ c.args.term.now ∷ []) c.self.view_is)
