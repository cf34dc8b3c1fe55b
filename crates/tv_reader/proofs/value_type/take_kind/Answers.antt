use Rattle.std.proofs.Common.{refl, ap}
use Rattle.tv_base.proofs.TakeSteps.{SoFar-start, SoFar-is, SoFar-step, SoFar-then}
use Rattle.tv_reader.specs.Kinds.{extension_at, kind_of, kind_at}
use Rattle.tv_reader.proofs.value_type.take_kind.Goals as goal

pub returns-in-7-clause-takes : goal.returns-in-7-clause-takes
unfolding kind_at
returns-in-7-clause-takes g c =
    let step = SoFar-step (λ code. kind_of code.0 code.1) (λ _. refl) (SoFar-start _ _ _ _ _ kind_at kind_at (λ _. refl)) c.in_ok-code.ensures.takes in
    SoFar-then (SoFar-is extension_at (λ w. ap (λ n. kind_of n w) c.in-7.is) step) c.take_extension.ensures.takes
