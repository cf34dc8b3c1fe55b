use Rattle.std.proofs.Common.{◌≡◌, ◌+◌, arith, ap, refl, subst, length, ◌∙◌, ◌++◌, ◌∷◌, []}
use Rattle.std.proofs.lemmas.Result.{err_from_is_err_and}
use Rattle.tv_base.specs.Take.{read_stop}
use Rattle.tv_base.proofs.TakeSteps.{lean, SoFar-start, SoFar-is, SoFar-step, SoFar-fails, SoFar-stops}
use Rattle.tv_reader.proofs.LegacySteps.{rest_from, rest_by_byte, is_open, first_brace, first_depth, first_place, next_depth, next_place, next_bound}
use Rattle.tv_base.specs.declared.cause.ReadError.TheVariants.{Memory}
use Rattle.tv_reader.specs.LegacyScan.{brace_count}
use Rattle.tv_reader.proofs.legacy.take_rest.Goals as goal

pub loop-scan-init : goal.loop-scan-init
loop-scan-init g c = record {
  depth = rw c.opened-scan.ensures.depth (first_depth _ c.requires);
  place = c.opened-scan.ensures.place ∙ first_place _ c.requires;
  bound = omega (arith, ap length c.requires, c.opened-scan.ensures.depth);
  so_far = SoFar-start _ _ _ _ _ _ _ (first_brace _ c.requires);
}

pub returns-in_err-byte : goal.returns-in_err-byte
returns-in_err-byte g c =
    let l = c.loop-scan in
    let p = err_from_is_err_and c.from_residual.result c.from_residual.ensures.1 in
    let going = SoFar-is _ (is_open l.slice.items l.scan.depth l.invariant.depth c.loop-scan-test.true) l.invariant.so_far in
    record { takes = rw (p.1, p.2) (SoFar-fails _ _ (λ x. rest_from (l.slice.items ++ x.0 ∷ []) x.1) (rest_by_byte l.slice.items) going (lean c.in_err-byte.ensures.takes)) }

pub returns-in_err-push : goal.returns-in_err-push
returns-in_err-push g c =
    let l = c.loop-scan in
    let going = SoFar-is _ (is_open l.slice.items l.scan.depth l.invariant.depth c.loop-scan-test.true) l.invariant.so_far in
    let step = SoFar-step (λ x. rest_from (l.slice.items ++ x.0 ∷ []) x.1) (rest_by_byte l.slice.items) going c.in_ok-byte.ensures.takes in
    let p = err_from_is_err_and c.from_residual-in_err-push.result c.from_residual-in_err-push.ensures.1 in
    record { takes = rw (p.1, p.2) (SoFar-stops read_stop _ Memory refl tt step) }

pub loop-scan-preserved : goal.loop-scan-preserved
loop-scan-preserved g c =
    let l = c.loop-scan in
    let pushed = c.in_ok-push.ensures.items in
    let going = SoFar-is _ (is_open l.slice.items l.scan.depth l.invariant.depth c.loop-scan-test.true) l.invariant.so_far in
    let step = SoFar-step (λ x. rest_from (l.slice.items ++ x.0 ∷ []) x.1) (rest_by_byte l.slice.items) going c.in_ok-byte.ensures.takes in
    record {
      depth = rw pushed (next_depth l.slice.items c.in_ok-byte.byte l.scan.depth c.after-scan.result.depth l.invariant.depth (subst (λ p. c.after-scan.result.depth + brace_count 125 p c.in_ok-byte.byte ≡ l.scan.depth + brace_count 123 p c.in_ok-byte.byte) l.invariant.place c.after-scan.ensures.depth));
      place = rw pushed (next_place l.slice.items c.in_ok-byte.byte _ _ l.invariant.place c.after-scan.ensures.place);
      bound = rw pushed (next_bound l.slice.items c.in_ok-byte.byte l.scan.depth c.after-scan.result.depth _ l.invariant.bound c.after-scan.ensures.depth);
      so_far = rw pushed step;
    }
