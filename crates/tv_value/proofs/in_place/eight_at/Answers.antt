use Rattle.std.proofs.Common.{arith}
use Rattle.tv_value.proofs.Found.{eight_found}
use Rattle.tv_value.proofs.in_place.eight_at.Goals as goal

pub returns : goal.returns
returns c =
    let e = c.in_ok-prefix.ensures.cases in
    eight_found c.args.bytes.now c.in_ok-prefix.prefix.now c.in_ok-prefix.rest.now c.from_le_bytes.result (λ i. omega (arith, c.type_inv.bytes i)) e.0 e.1 (omega (arith, e.2)) c.from_le_bytes.ensures
