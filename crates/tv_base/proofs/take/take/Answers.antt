use Rattle.std.proofs.Common.{refl, arith}
use Rattle.tv_base.proofs.Lending.{full, full_taken}
use Rattle.tv_base.proofs.take.take.Goals as goal

pub returns-then-fill-clause-takes : goal.returns-then-fill-clause-takes
returns-then-fill-clause-takes g c =
    record {
      gives = λ told taken joined. full _ _ _ _ taken (omega (arith, c.if-fill.ensures.length)) (c.if-fill.ensures.bytes told) joined;
      taken = λ told. full_taken _ (omega (arith, c.if-fill.ensures.length)) refl (c.if-fill.ensures.bytes told);
      stays_known = c.if-fill.ensures.is_known;
      counts = c.if-fill.ensures.failures;
      count_grows = omega arith;
      may_stop = tt;
    }
