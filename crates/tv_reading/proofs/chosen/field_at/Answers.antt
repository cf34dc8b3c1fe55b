use Rattle.std.proofs.Common.{refl, arith}
use Rattle.tv_reading.proofs.ChosenPairs.{field_found}
use Rattle.tv_reading.proofs.chosen.field_at.Goals as goal

pub returns : goal.returns
returns c =
    let e = c.in_ok-prefix.ensures.cases in
    field_found c.args.bytes.now c.in_ok-prefix.prefix.now _ c.from_le_bytes.result (λ i. omega (arith, c.type_inv.bytes i)) e.same refl e.enough c.from_le_bytes.ensures
