use Rattle.std.specs.Prelude.{string_bytes}
use Rattle.std.proofs.lemmas.Result.{err_from_is_err_and}
use Rattle.tv_base.specs.Reading.{text_at}
use Rattle.tv_base.proofs.TakeSteps.{lean}
use Rattle.tv_format.specs.InputError.{ErrorInCodedKey}
use Rattle.tv_reader.specs.Trees.{CodedKey}
use Rattle.tv_reader.proofs.AgreeKinds.{kind_agrees}
use Rattle.tv_reader.proofs.BehindKinds.{code_key}
use Rattle.tv_reader.proofs.Finding.{finds_part_fails, raised_roomy}
use Rattle.tv_reader.proofs.Raised.{code_fails, text_fails, text_found, text_refused}
use Rattle.tv_reader.proofs.TreeSteps.{key_found, key_text_fails, key_refused}
use Rattle.tv_reader.proofs.trees.take_coded_key.Goals as goal

pub returns-in_err-kind-clause-takes : goal.returns-in_err-kind-clause-takes
returns-in_err-kind-clause-takes g c =
    let p = err_from_is_err_and c.from_residual.result c.from_residual.ensures.1 in
    rw (p.1, p.2) (code_fails (λ s. string_bytes s) text_at (λ e n may. raised_roomy e n may.0) c.in_err-kind.ensures.takes)

pub returns-in_err-kind-clause-finds : goal.returns-in_err-kind-clause-finds
returns-in_err-kind-clause-finds g c =
    let p = err_from_is_err_and c.from_residual.result c.from_residual.ensures.1 in
    rw (p.1, p.2) (finds_part_fails CodedKey ErrorInCodedKey raised_roomy g.met.S.ByteSource.are_bytes kind_agrees code_key (lean c.in_err-kind.ensures.takes))

pub returns-in_err-key-in-String-clause-takes : goal.returns-in_err-key-in-String-clause-takes
returns-in_err-key-in-String-clause-takes g c =
    let p = err_from_is_err_and c.from_residual-in_err-key-in-String.result c.from_residual-in_err-key-in-String.ensures.1 in
    rw (p.1, p.2) (text_fails (λ s. string_bytes s) text_at raised_roomy c.in-String.is c.in_ok-kind.ensures.takes c.in_err-key-in-String.ensures.takes)

pub returns-in_err-key-in-String-clause-finds : goal.returns-in_err-key-in-String-clause-finds
returns-in_err-key-in-String-clause-finds g c =
    let p = err_from_is_err_and c.from_residual-in_err-key-in-String.result c.from_residual-in_err-key-in-String.ensures.1 in
    rw (p.1, p.2) (key_text_fails g.met.S.ByteSource.are_bytes c.in-String.is c.in_ok-kind.ensures.takes c.in_err-key-in-String.ensures.takes)

pub returns-in_ok-key-in-String-clause-takes : goal.returns-in_ok-key-in-String-clause-takes
returns-in_ok-key-in-String-clause-takes g c = text_found (λ s. string_bytes s) text_at c.in-String.is c.in_ok-kind.ensures.takes c.in_ok-key-in-String.ensures.takes

pub returns-in_ok-key-in-String-clause-finds : goal.returns-in_ok-key-in-String-clause-finds
returns-in_ok-key-in-String-clause-finds g c = key_found g.met.S.ByteSource.are_bytes c.in-String.is c.in_ok-kind.ensures.takes c.in_ok-key-in-String.ensures.takes

pub returns-in_default-clause-takes : goal.returns-in_default-clause-takes
returns-in_default-clause-takes g c = text_refused (λ s. string_bytes s) text_at (tt, λ is. cc) c.in_default.not-String c.in_ok-kind.ensures.takes

pub returns-in_default-clause-finds : goal.returns-in_default-clause-finds
returns-in_default-clause-finds g c = key_refused g.met.S.ByteSource.are_bytes c.in_default.not-String c.in_ok-kind.ensures.takes
