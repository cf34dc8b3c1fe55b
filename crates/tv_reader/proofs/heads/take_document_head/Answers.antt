use Rattle.std.proofs.lemmas.Result.{err_from_is_err_and}
use Rattle.tv_base.specs.Number.{VNum}
use Rattle.tv_base.specs.ErrorInPart.{ErrorInNumber}
use Rattle.tv_base.proofs.AgreeNumbers.{vint_agrees}
use Rattle.tv_format.specs.InputError.{Corrupt, corrupt}
use Rattle.tv_reader.proofs.Finding.{finds_as, finds_part, finds_part_fails, raised_lean}
use Rattle.tv_reader.proofs.heads.take_document_head.Goals as goal

pub returns-in_err-number-clause-finds : goal.returns-in_err-number-clause-finds
returns-in_err-number-clause-finds g c =
    let p = err_from_is_err_and c.from_residual.result c.from_residual.ensures.1 in
    rw (p.1, p.2) (finds_part_fails VNum (Corrupt ErrorInNumber) raised_lean g.met.S.ByteSource.are_bytes vint_agrees (λ w c f. corrupt f) c.in_err-number.ensures.takes)

pub returns-clause-finds : goal.returns-clause-finds
returns-clause-finds g c = finds_as c.in_ok-number.number _ _ (λ a h. h) (finds_part g.met.S.ByteSource.are_bytes vint_agrees c.in_ok-number.ensures.takes)
