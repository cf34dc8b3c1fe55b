use Rattle.std.proofs.Common.{refl, sym, ◌∙◌}
use Rattle.std.proofs.lemmas.Result.{err_from_is_err_and}
use Rattle.tv_base.specs.Take.{read_stop}
use Rattle.tv_base.proofs.TakeSteps.{SoFar-start, SoFar-is, SoFar-step, SoFar-fails, SoFar-returns}
use Rattle.tv_reader.proofs.LegacySteps.{nonblank_from, by_byte, is_skipped, is_nonblank}
use Rattle.tv_reader.proofs.legacy.take_nonblank.Goals as goal

pub loop-byte-init : goal.loop-byte-init
loop-byte-init g c = SoFar-start _ _ _ _ _ _ _ (λ bytes. refl)

pub returns-in_err-byte : goal.returns-in_err-byte
returns-in_err-byte g c =
    let p = err_from_is_err_and c.from_residual.result c.from_residual.ensures.1 in
    record { takes = rw (p.1, p.2) (SoFar-fails _ _ (λ x. nonblank_from x.0 x.1) by_byte c.loop-byte.invariant c.in_err-byte.ensures.takes) }

pub loop-byte-preserved : goal.loop-byte-preserved
loop-byte-preserved g c =
    let step = SoFar-step (λ x. nonblank_from x.0 x.1) by_byte c.loop-byte.invariant c.in_ok-byte.ensures.takes in
    SoFar-is _ (is_skipped c.in_ok-byte.byte (sym c.is_blank.ensures ∙ c.if-not-is_blank.false)) step

pub returns-then-not-is_blank : goal.returns-then-not-is_blank
returns-then-not-is_blank g c =
    let step = SoFar-step (λ x. nonblank_from x.0 x.1) by_byte c.loop-byte.invariant c.in_ok-byte.ensures.takes in
    record { takes = SoFar-returns read_stop _ _ (is_nonblank c.in_ok-byte.byte (sym c.is_blank.ensures ∙ c.if-not-is_blank.true)) step }
