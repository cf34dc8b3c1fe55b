use Rattle.std.proofs.Common.{◌%◌, ◌<◌, List, ℕ, get_or, sym, ap, subst, arith}
use Rattle.tv_base.specs.Number.{VNum}
use Rattle.tv_base.specs.Parts.{Begins}
use Rattle.tv_format.proofs.Prefixes.{begins_small}
use Rattle.tv_value.proofs.in_place.number_at.Goals as goal

pub returns-then-first-ge128-clause-found : goal.returns-then-first-ge128-clause-found
returns-then-first-ge128-clause-found c =
    let first = c.in-Some.first.now in
    let rest = c.in-Some.rest.now in
    let whole = c.in-Some.ensures.cases.0 in
    let small : first < 256 = omega (arith, c.type_inv.bytes 0, ap (λ (z : List ℕ). get_or z 0 0) whole) in
    let found = begins_small first rest c.if-first-ge128.true small in
    rw c.from.ensures (subst (λ z. Begins (λ b. VNum b (first % 128)) z rest) (sym whole) found)
