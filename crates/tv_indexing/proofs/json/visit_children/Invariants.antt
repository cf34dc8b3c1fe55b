use Rattle.std.proofs.Common.{◌∷◌}
use Rattle.tv_heap.specs.Value.{held_children}
use Rattle.std.specs.Prelude.{reverse}
use Rattle.tv_indexing.proofs.Visiting.{Taken}
use Rattle.tv_indexing.specs.JsonWalk.{children_terms, open_size, open_terms}
use Rattle.tv_indexing.proofs.json.visit_children.Given as goal

-- so far the terms before those of the children that are left have been taken
abbrev pub invariant-children : goal.invariant-children
invariant-children g l =
    let at = l.fn.at in
    Taken g.V.TermVisitor.has_taken l.fn.visitor l.visitor (children_terms at.field at.expand_dots l.fn.buffer (held_children l.fn.outermost)) (open_terms at.field at.expand_dots l.buffer (l.list ∷ reverse l.around.items))

abbrev pub decreases-children : goal.decreases-children
decreases-children g l = open_size (l.list ∷ reverse l.around.items)
