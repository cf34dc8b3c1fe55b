use Rattle.tv_base.proofs.Lending.{number_of_one}
use Rattle.tv_base.proofs.vint.number_at.Goals as goal

pub returns-then-first-ge128-clause-found : goal.returns-then-first-ge128-clause-found
returns-then-first-ge128-clause-found c =
    let item = c.in_ok-first.ensures.item.3 in
    rw c.from.ensures (number_of_one c.args.bytes.now c.in_ok-first.field-0.now item.0 (item.1 0) c.if-first-ge128.true)
