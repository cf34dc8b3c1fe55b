use Rattle.std.proofs.lemmas.Result.{err_from_is_err_and}
use Rattle.tv_base.specs.Reading.{vint_at}
use Rattle.tv_format.specs.InputError.{ErrorInCodedKey}
use Rattle.tv_reader.specs.Heads.{CodedLength}
use Rattle.tv_reader.proofs.AgreeKinds.{kind_agrees}
use Rattle.tv_reader.proofs.BehindKinds.{code_key}
use Rattle.tv_reader.proofs.Finding.{finds_part_fails, raised_lean}
use Rattle.tv_reader.proofs.HeadSteps.{key_length_found, key_length_fails, key_length_refused}
use Rattle.tv_reader.proofs.Raised.{code_fails, text_fails, text_found, text_refused}
use Rattle.tv_reader.proofs.heads.take_coded_key_head.Goals as goal

pub returns-in_err-kind-clause-finds : goal.returns-in_err-kind-clause-finds
returns-in_err-kind-clause-finds g c =
    let p = err_from_is_err_and c.from_residual.result c.from_residual.ensures.1 in
    rw (p.1, p.2) (finds_part_fails CodedLength ErrorInCodedKey raised_lean g.met.S.ByteSource.are_bytes kind_agrees code_key c.in_err-kind.ensures.takes)

pub returns-in_err-len-in-String-clause-finds : goal.returns-in_err-len-in-String-clause-finds
returns-in_err-len-in-String-clause-finds g c =
    let p = err_from_is_err_and c.from_residual-in_err-len-in-String.result c.from_residual-in_err-len-in-String.ensures.1 in
    rw (p.1, p.2) (key_length_fails g.met.S.ByteSource.are_bytes c.in-String.is c.in_ok-kind.ensures.takes c.in_err-len-in-String.ensures.takes)

pub returns-in_ok-len-in-String-clause-finds : goal.returns-in_ok-len-in-String-clause-finds
returns-in_ok-len-in-String-clause-finds g c = key_length_found g.met.S.ByteSource.are_bytes c.in-String.is c.in_ok-kind.ensures.takes c.in_ok-len-in-String.ensures.takes

pub returns-in_default-clause-finds : goal.returns-in_default-clause-finds
returns-in_default-clause-finds g c = key_length_refused g.met.S.ByteSource.are_bytes c.in_default.not-String c.in_ok-kind.ensures.takes

pub returns-in_err-kind-clause-takes : goal.returns-in_err-kind-clause-takes
returns-in_err-kind-clause-takes g c =
    let p = err_from_is_err_and c.from_residual.result c.from_residual.ensures.1 in
    rw (p.1, p.2) (code_fails (λ x. x) vint_at raised_lean c.in_err-kind.ensures.takes)

pub returns-in_err-len-in-String-clause-takes : goal.returns-in_err-len-in-String-clause-takes
returns-in_err-len-in-String-clause-takes g c =
    let p = err_from_is_err_and c.from_residual-in_err-len-in-String.result c.from_residual-in_err-len-in-String.ensures.1 in
    rw (p.1, p.2) (text_fails (λ x. x) vint_at raised_lean c.in-String.is c.in_ok-kind.ensures.takes c.in_err-len-in-String.ensures.takes)

pub returns-in_ok-len-in-String-clause-takes : goal.returns-in_ok-len-in-String-clause-takes
returns-in_ok-len-in-String-clause-takes g c = text_found (λ x. x) vint_at c.in-String.is c.in_ok-kind.ensures.takes c.in_ok-len-in-String.ensures.takes

pub returns-in_default-clause-takes : goal.returns-in_default-clause-takes
returns-in_default-clause-takes g c = text_refused (λ x. x) vint_at ((tt, λ is. cc), λ is. cc) c.in_default.not-String c.in_ok-kind.ensures.takes
