use Rattle.std.proofs.Common.{◌≡◌, ◌<◌, ◌∷◌, [], length, ap, sym, ◌∙◌, subst, arith, rules, length-append}
use Rattle.std.specs.Prelude.{◌↔◌}
use Rattle.std.proofs.lemmas.List.{nil_from_length}
use Rattle.tv_value.specs.Children.{children_left, ChildrenNestWithin, IsListOf}
use Rattle.tv_store.proofs.WithinDepth.{OpenNestWithin, leaf_passed, list_opened, opened_smaller, list_passed, too_many}
use Rattle.tv_store.proofs.depth.rest_within.Goals as goal

pub returns-in_default-pop : goal.returns-in_default-pop
returns-in_default-pop g c =
    let left = children_left {N = g.row.N.Denot} {K = g.row.N-Key.Denot} g.N.Nested.array_rest g.N.Nested.object_rest in
    let whole = ChildrenNestWithin c.args.depth (left c.args.outermost) in
    let l = c.lists in
    let none : l.around.items ≡ [] = nil_from_length l.around.items (omega (arith, l.around.ok.0, c.in_default-pop.ensures.cases.0)) in
    let within = subst (λ z. whole ↔ OpenNestWithin left c.args.depth z) none (list_passed left whole c.args.depth l.around.items l.list c.in_default.ensures.steps.0 l.invariant.so_far) in
    (λ h. within.1 tt, λ h. search rules)

pub lists-preserved-in_default : goal.lists-preserved-in_default
lists-preserved-in_default g c =
    let left = children_left {N = g.row.N.Denot} {K = g.row.N-Key.Denot} g.N.Nested.array_rest g.N.Nested.object_rest in
    let whole = ChildrenNestWithin c.args.depth (left c.args.outermost) in
    let l = c.lists in
    let cut = c.in-Some-pop.ensures.items in
    record {
      most = l.invariant.most;
      few = omega (arith, l.invariant.few, ap length cut, length-append c.pop.new.self.items (c.in-Some-pop.outer ∷ []));
      so_far = subst (λ z. whole ↔ OpenNestWithin left c.args.depth z) cut (list_passed left whole c.args.depth l.around.items l.list c.in_default.ensures.steps.0 l.invariant.so_far);
    }

pub returns-then-len-most : goal.returns-then-len-most
returns-then-len-most g c =
    let left = children_left {N = g.row.N.Denot} {K = g.row.N-Key.Denot} g.N.Nested.array_rest g.N.Nested.object_rest in
    let l = c.lists in
    let all : length l.around.items ≡ c.args.depth = omega (arith, l.around.ok.0, c.len.ensures, c.if-len-most.true) in
    let list = subst (IsListOf (left c.in-Ok.inner)) c.as_nested.ensures c.in-Ok.ensures.list in
    (λ h. absurd (search rules), λ h. absurd (too_many left (ChildrenNestWithin c.args.depth (left c.args.outermost)) c.args.depth l.around.items l.list c.next.new.self c.in-Ok.inner _ c.in-Some.ensures.steps list all l.invariant.so_far h))

pub lists-preserved : goal.lists-preserved
lists-preserved g c =
    let left = children_left {N = g.row.N.Denot} {K = g.row.N-Key.Denot} g.N.Nested.array_rest g.N.Nested.object_rest in
    let l = c.lists in
    let less : length l.around.items < c.args.depth = omega (arith, l.around.ok.0, c.len.ensures, c.if-len-most.false, l.invariant.few) in
    let pushed = c.in_ok-push-in-Ok.ensures.items in
    let list = subst (IsListOf (left c.in-Ok.inner)) c.as_nested.ensures c.in-Ok.ensures.list in
    record {
      most = l.invariant.most;
      few = omega (arith, less, ap length pushed, length-append l.around.items (c.next.new.self ∷ []));
      so_far = list_opened left (ChildrenNestWithin c.args.depth (left c.args.outermost)) c.args.depth l.around.items c.push.new.self.items l.list c.next.new.self c.in-Ok.inner _ c.in-Some.ensures.steps list less pushed l.invariant.so_far;
    }

pub lists-preserved-in-Err : goal.lists-preserved-in-Err
lists-preserved-in-Err g c =
    let left = children_left {N = g.row.N.Denot} {K = g.row.N-Key.Denot} g.N.Nested.array_rest g.N.Nested.object_rest in
    let l = c.lists in
    record {
      most = l.invariant.most;
      few = l.invariant.few;
      so_far = leaf_passed left (ChildrenNestWithin c.args.depth (left c.args.outermost)) c.args.depth l.around.items l.list c.next.new.self _ _ c.in-Some.ensures.steps (sym c.as_nested.ensures ∙ c.in-Err.ensures.leaf) l.invariant.so_far;
    }

pub lists-smaller : goal.lists-smaller
lists-smaller g c =
    let left = children_left {N = g.row.N.Denot} {K = g.row.N-Key.Denot} g.N.Nested.array_rest g.N.Nested.object_rest in
    let l = c.lists in
    let list = subst (IsListOf (left c.in-Ok.inner)) c.as_nested.ensures c.in-Ok.ensures.list in
    opened_smaller left l.around.items c.push.new.self.items l.list c.next.new.self c.in-Ok.inner _ c.in-Some.ensures.steps list c.in_ok-push-in-Ok.ensures.items
