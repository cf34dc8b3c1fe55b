use Rattle.std.proofs.Common.{arith}
use Rattle.tv_format.specs.WriteVersion.{written_version}
use Rattle.tv_reading.proofs.Walking.{field_begins}
use Rattle.tv_reading.proofs.encoded.behind_before.Goals as goal

pub returns-in_ok-_field-in-Pair : goal.returns-in_ok-_field-in-Pair
returns-in_ok-_field-in-Pair c =
    let e = c.in_ok-_field-in-Pair.ensures.cases in
    rw c.in-Pair.is (field_begins (written_version c.args.version) c.args.bytes.now c.in_ok-_field-in-Pair._field.now c.in_ok-_field-in-Pair.rest.now (λ i. omega (arith, c.type_inv.bytes i)) e.0 e.1 (omega (arith, e.2)))
