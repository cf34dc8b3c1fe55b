use Rattle.std.proofs.Common.{◌≡◌, ◌∷◌, [], ◌%◌, ◌/◌, ◌+◌, ap, sym, ◌∙◌, arith}
use Rattle.tv_base.specs.Number.{vnum}
use Rattle.tv_base.proofs.Growing.{extends_ok, extends_within}
use Rattle.tv_base.proofs.Numbers.{vnum-small, vnum-large}
use Rattle.tv_value.proofs.encode.push_number.Goals as goal

pub returns-then-number-lt128-clause-ok : goal.returns-then-number-lt128-clause-ok
returns-then-number-lt128-clause-ok c = extends_ok c.push.result _ _ (sym (vnum-small c.args.number c.if-number-lt128.true)) c.push.ensures

pub returns-then-number-lt128-clause-grows : goal.returns-then-number-lt128-clause-grows
returns-then-number-lt128-clause-grows c = extends_within c.push.result _ _ (sym (vnum-small c.args.number c.if-number-lt128.true)) c.push.ensures

-- two bytes
pub returns-then-number-lt16384-clause-ok : goal.returns-then-number-lt16384-clause-ok
returns-then-number-lt16384-clause-ok c =
    let n = c.args.number in
    let small = c.if-number-lt16384.true in
    let two : vnum n ≡ n % 128 ∷ (n / 128 + 128) ∷ [] = vnum-large n c.if-number-lt128.false (omega (arith, small)) ∙ ap (λ z. n % 128 ∷ z) (vnum-small (n / 128) (omega (arith, small))) in
    extends_ok c.extend_from_chunk.result _ _ (sym two) c.extend_from_chunk.ensures

pub returns-then-number-lt16384-clause-grows : goal.returns-then-number-lt16384-clause-grows
returns-then-number-lt16384-clause-grows c =
    let n = c.args.number in
    let small = c.if-number-lt16384.true in
    let two : vnum n ≡ n % 128 ∷ (n / 128 + 128) ∷ [] = vnum-large n c.if-number-lt128.false (omega (arith, small)) ∙ ap (λ z. n % 128 ∷ z) (vnum-small (n / 128) (omega (arith, small))) in
    extends_within c.extend_from_chunk.result _ _ (sym two) c.extend_from_chunk.ensures
