use Rattle.std.proofs.Common.{inl}
use Rattle.std.proofs.lemmas.Result.{err_from_is_err_and}
use Rattle.tv_base.proofs.AgreeNumbers.{vint_agrees}
use Rattle.tv_base.proofs.TakeSteps.{lean}
use Rattle.tv_format.specs.InputError.{Corrupt, corrupt}
use Rattle.tv_reader.proofs.Finding.{finds_part, finds_part_fails, raised_roomy}
use Rattle.tv_reading.specs.Skip.{AreCounted, ErrorInCounted}
use Rattle.tv_reading.proofs.Passing.{finds_after}
use Rattle.tv_reading.proofs.TokenParts.{tokens_ended, counted_tokens, counted_fail}
use Rattle.tv_reading.proofs.tokens.skip_counted_tokens.Goals as goal

pub returns-in_err-announced : goal.returns-in_err-announced
returns-in_err-announced g c =
    let p = err_from_is_err_and c.from_residual.result c.from_residual.ensures.1 in
    record { finds = rw (p.1, p.2) (finds_part_fails (λ b _. AreCounted b) (Corrupt ErrorInCounted) raised_roomy g.met.S.ByteSource.are_bytes vint_agrees (λ w d f. corrupt (inl f)) (lean c.in_err-announced.ensures.takes)) }

pub returns : goal.returns
returns g c =
    let n = c.in_ok-announced.announced in
    record { finds = finds_after (λ b _. AreCounted b) (Corrupt ErrorInCounted) (tokens_ended n) (λ a b y number t. counted_tokens n a b number t) (counted_fail n) (finds_part g.met.S.ByteSource.are_bytes vint_agrees c.in_ok-announced.ensures.takes) c.skip_tokens.ensures.finds }
