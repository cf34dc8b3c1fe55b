use Rattle.std.proofs.Common.{sym, subst}
use Rattle.tv_value.specs.Children.{children_left, IsListOf}
use Rattle.tv_writer.specs.Children.{AreValues, HasHead}
use Rattle.tv_writer.proofs.OpenLists.{child_met, list_passed, opened_decides, opened_smaller, passed_smaller}
use Rattle.tv_writer.proofs.WriterSteps.{value_has_head}
use Rattle.tv_writer.proofs.deep.are_encoded.Goals as goal

pub children-preserved-in_default : goal.children-preserved-in_default
children-preserved-in_default g c =
    let left = children_left {N = g.row.N.Denot} {K = g.row.N-Key.Denot} g.N.Nested.array_rest g.N.Nested.object_rest in
    let l = c.children in
    let same = list_passed left l.list c.in-Some-pop.outer l.around.items c.pop.new.self.items c.in_default.ensures.steps.0 c.in-Some-pop.ensures.items in
    (λ h. subst AreValues same (l.invariant.0 h), λ h. l.invariant.1 (subst AreValues (sym same) h))

pub children-smaller-in_default : goal.children-smaller-in_default
children-smaller-in_default g c =
    let left = children_left {N = g.row.N.Denot} {K = g.row.N-Key.Denot} g.N.Nested.array_rest g.N.Nested.object_rest in
    let l = c.children in
    passed_smaller left l.list c.in-Some-pop.outer l.around.items c.pop.new.self.items c.in_default.ensures.steps.0 c.in-Some-pop.ensures.items

pub returns-then-not-has_head : goal.returns-then-not-has_head
returns-then-not-has_head g c =
    let left = children_left {N = g.row.N.Denot} {K = g.row.N-Key.Denot} g.N.Nested.array_rest g.N.Nested.object_rest in
    let l = c.children in
    let met = child_met left l.list c.next.new.self l.around.items c.in-Some.ensures.steps in
    λ all. c.if-not-has_head.ensures (subst HasHead (sym c.as_nested.ensures) (value_has_head _ (subst AreValues met (l.invariant.0 all)).0))

pub children-smaller : goal.children-smaller
children-smaller g c =
    let left = children_left {N = g.row.N.Denot} {K = g.row.N-Key.Denot} g.N.Nested.array_rest g.N.Nested.object_rest in
    let l = c.children in
    let list = subst (IsListOf (left c.in-Ok.inner)) c.as_nested-in-children.ensures c.in-Ok.ensures.list in
    opened_smaller left l.list c.next.new.self c.in-Ok.inner l.around.items c.push.new.self.items c.in-Some.ensures.steps list c.in_ok-push-in-Ok.ensures.items

pub children-preserved : goal.children-preserved
children-preserved g c =
    let left = children_left {N = g.row.N.Denot} {K = g.row.N-Key.Denot} g.N.Nested.array_rest g.N.Nested.object_rest in
    let l = c.children in
    let list = subst (IsListOf (left c.in-Ok.inner)) c.as_nested-in-children.ensures c.in-Ok.ensures.list in
    let head = subst HasHead c.as_nested.ensures c.if-not-has_head.ensures in
    let alike = opened_decides left l.list c.next.new.self c.in-Ok.inner l.around.items c.push.new.self.items c.in-Some.ensures.steps list head c.in_ok-push-in-Ok.ensures.items in
    (λ h. alike.0 (l.invariant.0 h), λ h. l.invariant.1 (alike.1 h))
