use Rattle.std.proofs.Common.{◌-◌, ap, sym, subst, arith}
use Rattle.tv_value.specs.Children.{ChildrenNestWithin, children_left}
use Rattle.tv_value.proofs.ListChildren.{list_nests}
use Rattle.tv_value.proofs.nested.+nests.Goals as goal

pub nested_within-returns-then-depth-gt0 : goal.nested_within-returns-then-depth-gt0
nested_within-returns-then-depth-gt0 g t c =
    let same = list_nests c.args.depth (c.args.depth - 1) _ _ c.in-Ok.ensures.list (omega (arith, c.if-depth-gt0.true)) in
    (λ h. subst (λ z. z) (sym same) (c.children_within.ensures.0 h), λ h. c.children_within.ensures.1 (subst (λ z. z) same h))

pub children_within-loop-item-init : goal.children_within-loop-item-init
children_within-loop-item-init g t c =
    let same = ap (λ s. ChildrenNestWithin c.args.depth (children_left g.N.Nested.array_rest g.N.Nested.object_rest s)) c.into_iter-item-iterator.ensures.into_iter_gives in
    (λ h. subst (λ z. z) same h, λ h. subst (λ z. z) (sym same) h)
