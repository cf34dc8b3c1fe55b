use Rattle.std.proofs.Common.{arith}
use Rattle.tv_reader.proofs.Codes.{none_found}
use Rattle.tv_reader.proofs.value_type.ValueType.from_code.Goals as goal

pub returns-in-None : goal.returns-in-None
returns-in-None c = none_found c.args.code (λ e. omega (arith, c.in_default, e)) (λ e. omega (arith, c.in_default, e)) (λ e. omega (arith, c.in_default, e)) c.in-None.ensures.none
