use Rattle.std.proofs.Common.{◌++◌, sym, ap, subst, arith, rules}
use Rattle.std.proofs.lemmas.Result.{err_from_is_err_and}
use Rattle.tv_base.proofs.Written.{Written-step, Written-fails, Written-start, Writes_as, Writes_some, Writes_both}
use Rattle.tv_format.specs.WriteVersion.{written_version}
use Rattle.tv_format.specs.Short.{short}
use Rattle.tv_value.specs.Children.{IsListOf, children_left, children_size}
use Rattle.tv_value.specs.Lent.{nested_tree}
use Rattle.tv_writer.specs.Children.{AreValues, IsSingle, short_children}
use Rattle.tv_writer.proofs.WriterSteps.{head_first, list_short, single_short}
use Rattle.tv_writer.proofs.value_writer.+values.Goals as goal

pub write_children-loop-key-init : goal.write_children-loop-key-init
write_children-loop-key-init g t c = rw c.into_iter-key-iterator.ensures.into_iter_gives (record { valid = c.requires; smaller = omega arith; written = Written-start _ _ _ _ _ })

pub write_children-returns-in_err-write_child_key : goal.write_children-returns-in_err-write_child_key
write_children-returns-in_err-write_child_key g t c =
    let p = err_from_is_err_and c.from_residual.result c.from_residual.ensures.1 in
    rw (p.1, p.2) (Written-fails _ _ (ap (short_children (written_version c.args.version)) c.in-Some.ensures.steps) c.loop-key.invariant.written c.in_err-write_child_key.ensures)

pub write_children-returns-in_err-write_nested : goal.write_children-returns-in_err-write_nested
write_children-returns-in_err-write_nested g t c =
    let p = err_from_is_err_and c.from_residual-in_err-write_nested.result c.from_residual-in_err-write_nested.ensures.1 in
    let behind = Written-step _ _ (ap (short_children (written_version c.args.version)) c.in-Some.ensures.steps) c.loop-key.invariant.written c.in_ok-write_child_key.ensures in
    let same = ap (λ t. short (written_version c.args.version) t ++ short_children (written_version c.args.version) (children_left g.N.Nested.array_rest g.N.Nested.object_rest c.next.new.self)) (sym c.as_nested-in-loop-key.ensures) in
    rw (p.1, p.2) (Written-fails _ _ same behind c.in_err-write_nested.ensures)

pub write_children-loop-key-preserved : goal.write_children-loop-key-preserved
write_children-loop-key-preserved g t c =
    let i = c.loop-key.invariant in
    let step = c.in-Some.ensures.steps in
    let behind = Written-step _ _ (ap (short_children (written_version c.args.version)) step) i.written c.in_ok-write_child_key.ensures in
    let same = ap (λ t. short (written_version c.args.version) t ++ short_children (written_version c.args.version) (children_left g.N.Nested.array_rest g.N.Nested.object_rest c.next.new.self)) (sym c.as_nested-in-loop-key.ensures) in
    record {
      valid = (subst AreValues step i.valid).1;
      smaller = omega (arith, i.smaller, ap children_size step);
      written = Written-step _ _ same behind c.in_ok-write_nested.ensures;
    }

pub write_nested-returns-in_err-write_head : goal.write_nested-returns-in_err-write_head
write_nested-returns-in_err-write_head g t c =
    let p = err_from_is_err_and c.from_residual.result c.from_residual.ensures.1 in
    let rest = head_first (written_version c.args.version) (nested_tree g.N.Nested.array_rest g.N.Nested.object_rest c.args.value) in
    rw (p.1, p.2) (Writes_some rest.0 c.in_err-write_head.ensures.writes rest.1)

pub write_nested-returns-in-None : goal.write_nested-returns-in-None
write_nested-returns-in-None g t c =
    let tree = nested_tree g.N.Nested.array_rest g.N.Nested.object_rest c.args.value in
    let single : IsSingle tree = search rules in
    let w = Writes_as c.in_ok-write_head.ensures.writes (sym (single_short (written_version c.args.version) tree single)) in
    record { appends = w.appends; stays_known = w.stays_known; counts = w.counts }

pub write_nested-returns-in-Some : goal.write_nested-returns-in-Some
write_nested-returns-in-Some g t c =
    let tree = nested_tree g.N.Nested.array_rest g.N.Nested.object_rest c.args.value in
    let list : IsListOf (children_left g.N.Nested.array_rest g.N.Nested.object_rest c.in-Some.children) tree = search rules in
    Writes_both c.in_ok-write_head.ensures.writes c.write_children.ensures (list_short (written_version c.args.version) _ tree list)
