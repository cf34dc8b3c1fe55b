use Rattle.std.proofs.Common.{refl, subst}
use Rattle.tv_base.proofs.TakeSteps.{SoFar-start, SoFar-step}
use Rattle.tv_reader.specs.LegacyReading.{beside, slice_tree, legacy_at, AnswersSlice}
use Rattle.tv_reader.proofs.LegacySteps.{answered}
use Rattle.tv_reader.proofs.legacy.take_legacy.Goals as goal

pub returns : goal.returns
unfolding legacy_at
returns g c =
    let step = SoFar-step (λ slice. beside slice.1 (slice_tree slice.0)) (λ _. refl) (SoFar-start _ _ _ _ _ legacy_at legacy_at (λ _. refl)) c.in_ok-slice.ensures.takes in
    record { takes = answered c.in_ok-slice.slice.items c.object_of.result (subst (λ s. AnswersSlice s c.object_of.result) c.deref.ensures.value c.object_of.ensures.answers) c.object_of.ensures.bounded step }
