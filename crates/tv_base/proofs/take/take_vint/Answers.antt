use Rattle.std.proofs.Common.{refl, arith}
use Rattle.tv_base.proofs.Lending.{number_read, number_taken}
use Rattle.tv_base.proofs.take.take_vint.Goals as goal

pub returns-in-Some-clause-takes : goal.returns-in-Some-clause-takes
returns-in-Some-clause-takes g c =
    let gave = rw c.in-Some.is at c.pass_number.ensures in
    record {
      gives = λ told taken joined. number_read _ _ c.in-Some.number c.in-Some.len taken (gave.bytes told) joined;
      taken = λ told. number_taken {n = c.in-Some.number} refl (gave.bytes told);
      stays_known = gave.is_known;
      counts = gave.failures;
      count_grows = omega arith;
      may_stop = tt;
    }
