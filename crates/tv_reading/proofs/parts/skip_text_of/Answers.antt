use Rattle.std.proofs.lemmas.Result.{err_from_is_err_and}
use Rattle.tv_reader.proofs.Finding.{finds_fails}
use Rattle.tv_reading.specs.Skip.{IsTextOf, ErrorInTextOf, text_ends}
use Rattle.tv_reading.proofs.Passing.{no_text_of}
use Rattle.tv_reading.proofs.parts.skip_text_of.Goals as goal

pub returns-in_err-test_bytes : goal.returns-in_err-test_bytes
returns-in_err-test_bytes g c =
    let p = err_from_is_err_and c.from_residual.result c.from_residual.ensures.1 in
    let n = c.args.len in
    record { finds = rw (p.1, p.2) (finds_fails (λ b _. IsTextOf n b) (ErrorInTextOf n) (λ w r f. text_ends f) c.in_err-test_bytes.ensures.finds) }

pub returns-else-branch : goal.returns-else-branch
returns-else-branch g c = record { finds = no_text_of c.args.len _ _ c.if-branch.false c.in_ok-test_bytes.ensures.finds }
