use Rattle.std.proofs.Common.{arith}
use Rattle.tv_heap.proofs.Lends.{one_byte_prefix, two_bytes_prefix}
use Rattle.tv_heap.proofs.lent.short_at.Goals as goal

pub returns-in-len1-up-clause-number : goal.returns-in-len1-up-clause-number
returns-in-len1-up-clause-number c = λ n rest h e.
    let g = one_byte_prefix c.args.bytes.now n rest c.if-last-ge128.true h e in
    (omega (arith, c.from.ensures, g.0), g.1)

pub returns-in-len2-up-clause-number : goal.returns-in-len2-up-clause-number
returns-in-len2-up-clause-number c = λ n rest h e.
    let g = two_bytes_prefix c.args.bytes.now n rest c.if-last-ge128.false c.if-last-ge128-2.true h e in
    (omega (arith, c.from-in-len2-up.ensures, c.from-in-len2-up-2.ensures, g.0), g.1)
