use Rattle.std.proofs.lemmas.Result.{err_from_is_err_and}
use Rattle.tv_reader.proofs.TreeSteps.{legacy_found, legacy_fails}
use Rattle.tv_reader.proofs.trees.take_legacy_object.Goals as goal

pub returns-in_err-value : goal.returns-in_err-value
returns-in_err-value g c =
    let p = err_from_is_err_and c.from_residual.result c.from_residual.ensures.1 in
    record { finds = λ v. rw (p.1, p.2) (legacy_fails v g.met.S.ByteSource.are_bytes c.in_err-value.ensures.takes) }

pub returns : goal.returns
returns g c = record { finds = λ v. legacy_found v g.met.S.ByteSource.are_bytes c.in_ok-value.ensures.takes }
