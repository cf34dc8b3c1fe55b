use Rattle.std.proofs.lemmas.Result.{err_from_is_err_and}
use Rattle.tv_base.proofs.TakeSteps.{lean}
use Rattle.tv_format.specs.InputError.{ErrorInCodedKey}
use Rattle.tv_reader.proofs.AgreeKinds.{kind_agrees}
use Rattle.tv_reader.proofs.BehindKinds.{code_key}
use Rattle.tv_reader.proofs.Finding.{finds_fails, finds_part_fails, raised_roomy}
use Rattle.tv_reader.proofs.TreeSteps.{key_refused}
use Rattle.tv_reading.specs.Skip.{IsCodedText}
use Rattle.tv_reading.proofs.Passing.{coded_text_then}
use Rattle.tv_reading.proofs.parts.skip_coded_text.Goals as goal

pub returns-in_err-kind : goal.returns-in_err-kind
returns-in_err-kind g c =
    let p = err_from_is_err_and c.from_residual.result c.from_residual.ensures.1 in
    record { finds = rw (p.1, p.2) (finds_part_fails (λ b _. IsCodedText b) ErrorInCodedKey raised_roomy g.met.S.ByteSource.are_bytes kind_agrees code_key (lean c.in_err-kind.ensures.takes)) }

pub returns-in-String : goal.returns-in-String
returns-in-String g c = record { finds = coded_text_then _ g.met.S.ByteSource.are_bytes c.in-String.is c.in_ok-kind.ensures.takes c.skip_text.ensures.finds }

pub returns-in_default : goal.returns-in_default
returns-in_default g c = record { finds = finds_fails (λ b _. IsCodedText b) ErrorInCodedKey (λ w r f. f) (key_refused g.met.S.ByteSource.are_bytes c.in_default.not-String c.in_ok-kind.ensures.takes) }
