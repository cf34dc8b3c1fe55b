use Rattle.std.proofs.lemmas.Result.{err_from_is_err_and}
use Rattle.tv_typed.specs.Typed.{failed_before, mismatched}
use Rattle.tv_typed.proofs.SameTypes.{told_apart}
use Rattle.tv_typed.proofs.store_reader.StoreReader.expect.Goals as goal

pub returns-in_err-go_on-clause-err : goal.returns-in_err-go_on-clause-err
returns-in_err-go_on-clause-err g c =
    let p = err_from_is_err_and c.from_residual.result c.from_residual.ensures.1 in
    rw (p.1, p.2, c.in_err-go_on.ensures.err.0) (failed_before c.in_err-go_on.ensures.err.1)

pub returns-then-ne-clause-err : goal.returns-then-ne-clause-err
returns-then-ne-clause-err g c = mismatched c.in_ok-go_on.ensures.ok (told_apart c.args.kind c.args.expected c.if-ne.ensures)
