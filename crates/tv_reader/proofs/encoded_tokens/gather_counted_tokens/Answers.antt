use Rattle.std.proofs.Common.{refl}
use Rattle.tv_base.proofs.TakeSteps.{SoFar-start, SoFar-step, SoFar-then}
use Rattle.tv_reader.specs.Leaves.{tokens_at, counted_tokens_at}
use Rattle.tv_reader.proofs.encoded_tokens.gather_counted_tokens.Goals as goal

pub returns : goal.returns
unfolding counted_tokens_at
returns g c =
    let step = SoFar-step (λ number. tokens_at number.0 number.1) (λ _. refl) (SoFar-start _ _ _ _ _ counted_tokens_at counted_tokens_at (λ _. refl)) c.in_ok-announced.ensures.takes in
    record { takes = SoFar-then step c.gather_tokens.ensures.takes }
