use Rattle.std.proofs.Common.{◌≡◌, sym, ap, subst}
use Rattle.std.proofs.lemmas.Result.{err_from_is_err_and}
use Rattle.tv_base.proofs.Written.{Written-step, Written-fails, Written-start}
use Rattle.tv_format.specs.WriteVersion.{written_version}
use Rattle.tv_value.specs.Children.{children_left, IsListOf}
use Rattle.tv_writer.specs.Children.{AreValues, short_children}
use Rattle.tv_writer.proofs.OpenLists.{all_left, alone_left, child_met, head_next, list_passed, opened_next, opened_smaller, opened_valid, passed_smaller, single_next, Written-short}
use Rattle.tv_writer.proofs.deep.write_children_deep.Goals as goal

pub children-init : goal.children-init
children-init g c =
    let left = children_left {N = g.row.N.Denot} {K = g.row.N-Key.Denot} g.N.Nested.array_rest g.N.Nested.object_rest in
    let first : all_left left c.args.first c.new-around.result.items ≡ left c.args.first = alone_left left c.args.first c.new-around.result.items c.new-around.ensures.items in
    record { valid = subst AreValues (sym first) c.requires; written = rw first (Written-start _ _ _ _ _) }

pub children-preserved-in_default : goal.children-preserved-in_default
children-preserved-in_default g c =
    let left = children_left {N = g.row.N.Denot} {K = g.row.N-Key.Denot} g.N.Nested.array_rest g.N.Nested.object_rest in
    let l = c.children in
    let same = list_passed left l.list c.in-Some-pop.outer l.around.items c.pop.new.self.items c.in_default.ensures.steps.0 c.in-Some-pop.ensures.items in
    record { valid = subst AreValues same l.invariant.valid; written = rw same at l.invariant.written }

pub children-smaller-in_default : goal.children-smaller-in_default
children-smaller-in_default g c =
    let left = children_left {N = g.row.N.Denot} {K = g.row.N-Key.Denot} g.N.Nested.array_rest g.N.Nested.object_rest in
    let l = c.children in
    passed_smaller left l.list c.in-Some-pop.outer l.around.items c.pop.new.self.items c.in_default.ensures.steps.0 c.in-Some-pop.ensures.items

pub returns-in_err-write_child_key-clause-writes : goal.returns-in_err-write_child_key-clause-writes
returns-in_err-write_child_key-clause-writes g c =
    let left = children_left {N = g.row.N.Denot} {K = g.row.N-Key.Denot} g.N.Nested.array_rest g.N.Nested.object_rest in
    let p = err_from_is_err_and c.from_residual.result c.from_residual.ensures.1 in
    let l = c.children in
    let next = ap (short_children (written_version c.args.version)) (child_met left l.list c.next.new.self l.around.items c.in-Some.ensures.steps) in
    let w = c.in_err-write_child_key.ensures in
    rw (p.1, p.2) (Written-fails {T = Unit {0}} _ _ next l.invariant.written (record { appends = w.appends; stays_known = w.stays_known; counts = w.counts }))

pub returns-in_err-write_head-clause-writes : goal.returns-in_err-write_head-clause-writes
returns-in_err-write_head-clause-writes g c =
    let left = children_left {N = g.row.N.Denot} {K = g.row.N-Key.Denot} g.N.Nested.array_rest g.N.Nested.object_rest in
    let p = err_from_is_err_and c.from_residual-in_err-write_head.result c.from_residual-in_err-write_head.ensures.1 in
    let l = c.children in
    let v = written_version c.args.version in
    let next = ap (short_children v) (child_met left l.list c.next.new.self l.around.items c.in-Some.ensures.steps) in
    let behind = Written-step _ _ next l.invariant.written c.in_ok-write_child_key.ensures in
    let w = c.in_err-write_head.ensures.writes in
    rw (p.1, p.2) (Written-fails {T = Unit {0}} _ _ (head_next v _ _ _ c.as_nested-in-children.ensures) behind (record { appends = w.appends; stays_known = w.stays_known; counts = w.counts }))

pub children-preserved-in-None : goal.children-preserved-in-None
children-preserved-in-None g c =
    let left = children_left {N = g.row.N.Denot} {K = g.row.N-Key.Denot} g.N.Nested.array_rest g.N.Nested.object_rest in
    let l = c.children in
    let v = written_version c.args.version in
    let met = child_met left l.list c.next.new.self l.around.items c.in-Some.ensures.steps in
    let behind = Written-step _ _ (ap (short_children v) met) l.invariant.written c.in_ok-write_child_key.ensures in
    let single = rw c.in-None.is at c.in_ok-write_head.ensures.inner in
    record {
      valid = (subst AreValues met l.invariant.valid).1;
      written = Written-step _ _ (single_next v _ _ (all_left left c.next.new.self l.around.items) c.as_nested-in-children.ensures single) behind c.in_ok-write_head.ensures.writes;
    }

pub returns-in_err-push-in-Some-2-clause-writes : goal.returns-in_err-push-in-Some-2-clause-writes
returns-in_err-push-in-Some-2-clause-writes g c =
    let left = children_left {N = g.row.N.Denot} {K = g.row.N-Key.Denot} g.N.Nested.array_rest g.N.Nested.object_rest in
    let p = err_from_is_err_and c.from_residual-in_err-push-in-Some-2.result c.from_residual-in_err-push-in-Some-2.ensures.1 in
    let l = c.children in
    let v = written_version c.args.version in
    let next = ap (short_children v) (child_met left l.list c.next.new.self l.around.items c.in-Some.ensures.steps) in
    let behind = Written-step _ _ next l.invariant.written c.in_ok-write_child_key.ensures in
    rw (p.1, p.2) (Written-short (Written-step _ _ (head_next v _ _ _ c.as_nested-in-children.ensures) behind c.in_ok-write_head.ensures.writes))

pub children-smaller : goal.children-smaller
children-smaller g c =
    let left = children_left {N = g.row.N.Denot} {K = g.row.N-Key.Denot} g.N.Nested.array_rest g.N.Nested.object_rest in
    let l = c.children in
    let inner = rw c.in-Some-2.is at c.in_ok-write_head.ensures.inner in
    let list = subst (IsListOf (left c.in-Some-2.inner)) c.as_nested-in-children.ensures inner in
    opened_smaller left l.list c.next.new.self c.in-Some-2.inner l.around.items c.push.new.self.items c.in-Some.ensures.steps list c.in_ok-push-in-Some-2.ensures.items

pub children-preserved : goal.children-preserved
children-preserved g c =
    let left = children_left {N = g.row.N.Denot} {K = g.row.N-Key.Denot} g.N.Nested.array_rest g.N.Nested.object_rest in
    let l = c.children in
    let v = written_version c.args.version in
    let inner = rw c.in-Some-2.is at c.in_ok-write_head.ensures.inner in
    let list = subst (IsListOf (left c.in-Some-2.inner)) c.as_nested-in-children.ensures inner in
    let pushed = c.in_ok-push-in-Some-2.ensures.items in
    let next = ap (short_children v) (child_met left l.list c.next.new.self l.around.items c.in-Some.ensures.steps) in
    let behind = Written-step _ _ next l.invariant.written c.in_ok-write_child_key.ensures in
    let head = opened_next left v c.next.new.self c.in-Some-2.inner l.around.items c.push.new.self.items _ _ c.as_nested-in-children.ensures inner pushed in
    record {
      valid = opened_valid left l.list c.next.new.self c.in-Some-2.inner l.around.items c.push.new.self.items c.in-Some.ensures.steps list pushed l.invariant.valid;
      written = Written-step _ _ head behind c.in_ok-write_head.ensures.writes;
    }
