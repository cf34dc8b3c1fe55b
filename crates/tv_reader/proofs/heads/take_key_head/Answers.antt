use Rattle.std.proofs.lemmas.Result.{err_from_is_err_and}
use Rattle.tv_reader.specs.HeadReading.{key_by}
use Rattle.tv_reader.proofs.Finding.{raised_lean}
use Rattle.tv_reader.proofs.HeadSteps.{plain_length_found, plain_length_fails}
use Rattle.tv_reader.proofs.Raised.{raised_fails, raised_ok}
use Rattle.tv_reader.proofs.heads.take_key_head.Goals as goal

pub returns-in_err-len-in-V3-clause-finds : goal.returns-in_err-len-in-V3-clause-finds
returns-in_err-len-in-V3-clause-finds g c =
    let p = err_from_is_err_and c.from_residual.result c.from_residual.ensures.1 in
    rw (p.1, p.2, c.in-V3.is) (plain_length_fails g.met.S.ByteSource.are_bytes c.in_err-len-in-V3.ensures.takes)

pub returns-in_ok-len-in-V3-clause-finds : goal.returns-in_ok-len-in-V3-clause-finds
returns-in_ok-len-in-V3-clause-finds g c = rw c.in-V3.is (plain_length_found g.met.S.ByteSource.are_bytes c.in_ok-len-in-V3.ensures.takes)

pub returns-in_err-len-in-V3-clause-takes : goal.returns-in_err-len-in-V3-clause-takes
unfolding key_by
returns-in_err-len-in-V3-clause-takes g c =
    let p = err_from_is_err_and c.from_residual.result c.from_residual.ensures.1 in
    rw (p.1, p.2, c.in-V3.is) (raised_fails raised_lean c.in_err-len-in-V3.ensures.takes)

pub returns-in_ok-len-in-V3-clause-takes : goal.returns-in_ok-len-in-V3-clause-takes
unfolding key_by
returns-in_ok-len-in-V3-clause-takes g c = rw c.in-V3.is (raised_ok c.in_ok-len-in-V3.ensures.takes)
