use Rattle.std.proofs.Common.{◌+◌, ◌-◌, ◌*◌, get_or, arith, add-one, sym, ap, ◌∙◌}
use Rattle.std.proofs.Math.Nat.{pow-suc}
use Rattle.tv_base.proofs.TakenGroups.{group_fits, ends, goes_on}
use Rattle.tv_base.proofs.Lending.{group_at}
use Rattle.tv_base.proofs.vint.long_number_at.Goals as goal

pub returns-then-byte-ge128-clause-found : goal.returns-then-byte-ge128-clause-found
returns-then-byte-ge128-clause-found c =
    let l = c.loop-i in
    rw c.from.ensures (l.invariant.read ∙ group_at l.value l.weight l.i c.args.bytes.now (omega arith) (omega arith) ∙ ends l.value l.weight (9 - (l.i + 1)) (get_or c.args.bytes.now l.i 0) c.if-byte-ge128.true _)

pub loop-i-preserved : goal.loop-i-preserved
loop-i-preserved c =
    let l = c.loop-i in
    record {
      small = group_fits l.value l.weight c.from.result l.invariant.small (omega arith);
      weight = rw add-one (ap (λ w. w * 128) l.invariant.weight ∙ sym (pow-suc 128 l.i));
      within = omega arith;
      nine = omega arith;
      read = rw c.from.ensures (l.invariant.read ∙ group_at l.value l.weight l.i c.args.bytes.now (omega arith) (omega arith) ∙ goes_on l.value l.weight (9 - (l.i + 1)) (get_or c.args.bytes.now l.i 0) c.if-byte-ge128.false _);
    }
