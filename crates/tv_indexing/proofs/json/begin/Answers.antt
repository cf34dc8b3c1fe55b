use Rattle.std.proofs.Common.{refl, subst, ◌∙◌}
use Rattle.tv_heap.specs.Value.{tree_of, held_children}
use Rattle.tv_indexing.proofs.Walks.{list_terms}
use Rattle.tv_value.specs.Children.{IsListOf}
use Rattle.tv_value.proofs.ListChildren.{list_size}
use Rattle.tv_indexing.proofs.json.begin.Goals as goal

pub returns-in-Ok-clause-begun : goal.returns-in-Ok-clause-begun
returns-in-Ok-clause-begun g c =
    let tree = tree_of c.args.value in
    let is = subst (IsListOf (held_children c.in-Ok.children)) c.as_nested.ensures c.in-Ok.ensures.list in
    (refl, c.in_ok-enter.ensures.made tree ∙ list_terms c.args.at.field c.args.at.expand_dots _ _ tree is, list_size _ tree is)
