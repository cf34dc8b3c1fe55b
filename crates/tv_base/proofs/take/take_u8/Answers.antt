use Rattle.std.proofs.Common.{arith, refl}
use Rattle.tv_base.proofs.TakeSteps.{Taken_none}
use Rattle.tv_base.proofs.TakenBytes.{byte_read, byte_taken, no_byte}
use Rattle.tv_base.proofs.take.take_u8.Goals as goal

pub returns-then-count-eq18446744073709551615-clause-takes : goal.returns-then-count-eq18446744073709551615-clause-takes
returns-then-count-eq18446744073709551615-clause-takes g c = record {
  gives = λ told taken joined. (omega arith, no_byte taken joined);
  taken = λ told. Taken_none _ _;
  stays_known = λ told. told;
  counts = refl;
  count_grows = omega arith;
  may_stop = (omega arith, λ is. cc);
}

pub returns-in-Ok-Some-clause-takes : goal.returns-in-Ok-Some-clause-takes
returns-in-Ok-Some-clause-takes g c =
    let given = rw c.in-Ok-Some.field-0-is at c.in-Ok-Some.ensures.bytes in
    record {
      gives = λ told taken joined. byte_read taken (given told) joined;
      taken = λ told. byte_taken (given told);
      stays_known = c.in-Ok-Some.ensures.is_known;
      counts = c.in-Ok-Some.ensures.failures;
      count_grows = omega arith;
      may_stop = tt;
    }
