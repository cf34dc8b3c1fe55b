use Rattle.std.proofs.Common.{arith, add-one, ◌≤◌, ◌-◌, ◌+◌, ◌*◌, ◌^◌, refl, sym, ap, ◌∙◌}
use Rattle.std.proofs.Math.Nat.{pow-suc}
use Rattle.std.proofs.lemmas.Result.{err_from_is_err_and}
use Rattle.tv_base.proofs.TakeSteps.{SoFar-start, SoFar-is, SoFar-step, SoFar-fails, SoFar-returns, SoFar-refuses}
use Rattle.tv_base.proofs.TakenGroups.{with_low, weight_fits, group_fits, after_group, first_group, start, goes_on, ends, tenth_group, is_low, is_large, is_last}
use Rattle.tv_base.specs.Take.{read_stop}
use Rattle.tv_base.specs.Reading.{last_group}
use Rattle.tv_base.proofs.take.take_groups.Goals as goal
use Rattle.tv_base.proofs.take.take_groups.Goals.{then-last-lt128-via-then-last-lt128, then-last-lt128-via-else-last-lt128+then-last-gt1}

pub loop-init : goal.loop-init
loop-init g c = record {
  small = omega arith;
  counted = omega arith;
  weight = refl;
  so_far = SoFar-start _ _ _ _ _ _ _ start;
}

pub returns-in_err-byte-clause-takes : goal.returns-in_err-byte-clause-takes
returns-in_err-byte-clause-takes g c =
    let p = err_from_is_err_and c.from_residual.result c.from_residual.ensures.1 in
    let l = c.loop in
    rw (p.1, p.2) (SoFar-fails _ _ (λ first. with_low l.value l.weight (after_group (9 - (l.counter + 1)) first)) (first_group l.value l.weight l.counter c.loop-test.true) l.invariant.so_far c.in_err-byte.ensures.takes)

pub overflow_mul-value : goal.overflow_mul-value
overflow_mul-value g c =
    let fits : c.loop.weight ≤ 2 ^ 56 = rw c.loop.invariant.weight (weight_fits c.loop.counter c.loop-test.true) in
    omega (arith, group_fits c.loop.value c.loop.weight c.from.result c.loop.invariant.small (omega arith))

pub overflow_add-value : goal.overflow_add-value
overflow_add-value g c =
    let fits : c.loop.weight ≤ 2 ^ 56 = rw c.loop.invariant.weight (weight_fits c.loop.counter c.loop-test.true) in
    omega (arith, group_fits c.loop.value c.loop.weight c.from.result c.loop.invariant.small (omega arith))

pub returns-then-byte-ge128-clause-takes : goal.returns-then-byte-ge128-clause-takes
returns-then-byte-ge128-clause-takes g c =
    let l = c.loop in
    let step = SoFar-step (λ first. with_low l.value l.weight (after_group (9 - (l.counter + 1)) first)) (first_group l.value l.weight l.counter c.loop-test.true) l.invariant.so_far c.in_ok-byte.ensures.takes in
    rw c.from.ensures (SoFar-returns read_stop _ _ (ends l.value l.weight (9 - (l.counter + 1)) c.in_ok-byte.byte c.if-byte-ge128.true) step)

pub overflow_mul-weight : goal.overflow_mul-weight
overflow_mul-weight g c =
    let fits : c.loop.weight ≤ 2 ^ 56 = rw c.loop.invariant.weight (weight_fits c.loop.counter c.loop-test.true) in
    omega arith

pub loop-preserved : goal.loop-preserved
loop-preserved g c =
    let l = c.loop in
    let step = SoFar-step (λ first. with_low l.value l.weight (after_group (9 - (l.counter + 1)) first)) (first_group l.value l.weight l.counter c.loop-test.true) l.invariant.so_far c.in_ok-byte.ensures.takes in
    record {
      small = group_fits l.value l.weight c.from.result l.invariant.small (omega arith);
      counted = omega (arith, c.in_ok-byte.ensures.counted);
      weight = rw add-one (ap (λ w. w * 128) l.invariant.weight ∙ sym (pow-suc 128 l.counter));
      so_far = rw c.from.ensures (SoFar-is _ (goes_on l.value l.weight (9 - (l.counter + 1)) c.in_ok-byte.byte c.if-byte-ge128.false) step);
    }

pub returns-in_err-last-clause-takes : goal.returns-in_err-last-clause-takes
returns-in_err-last-clause-takes g c =
    let p = err_from_is_err_and c.from_residual-in_err-last.result c.from_residual-in_err-last.ensures.1 in
    let l = c.loop in
    rw (p.1, p.2) (SoFar-fails _ _ (λ last. with_low l.value l.weight (last_group last.0 last.1)) (tenth_group l.value l.weight l.counter (omega arith)) l.invariant.so_far c.in_err-last.ensures.takes)

pub returns-then-last-lt128-clause-takes : goal.returns-then-last-lt128-clause-takes
returns-then-last-lt128-clause-takes g c =
    let l = c.loop in
    let step = SoFar-step (λ last. with_low l.value l.weight (last_group last.0 last.1)) (tenth_group l.value l.weight l.counter (omega arith)) l.invariant.so_far c.in_ok-last.ensures.takes in
    elim c.then-last-lt128.branch [
      | then-last-lt128-via-then-last-lt128 w ↦ SoFar-refuses read_stop _ _ _ refl (tt, λ is. cc) (is_low l.value l.weight c.in_ok-last.last w.if-last-lt128.true) step
      | then-last-lt128-via-else-last-lt128+then-last-gt1 w ↦ SoFar-refuses read_stop _ _ _ refl (tt, λ is. cc) (is_large l.value l.weight c.in_ok-last.last w.if-last-gt1.true) step
    ]

pub returns-clause-takes : goal.returns-clause-takes
returns-clause-takes g c =
    let l = c.loop in
    let step = SoFar-step (λ last. with_low l.value l.weight (last_group last.0 last.1)) (tenth_group l.value l.weight l.counter (omega arith)) l.invariant.so_far c.in_ok-last.ensures.takes in
    rw c.from-2.ensures (SoFar-returns read_stop _ _ (is_last l.value l.weight c.in_ok-last.last c.if-last-lt128.false c.if-last-gt1.false) step)
