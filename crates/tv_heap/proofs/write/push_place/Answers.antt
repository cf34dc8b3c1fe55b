use Rattle.std.proofs.Common.{◌≡◌, ◌∷◌, [], ◌%◌, ◌/◌, ◌+◌, ap, sym, ◌∙◌, arith}
use Rattle.tv_base.specs.Number.{vnum}
use Rattle.tv_base.proofs.Growing.{extends_ok}
use Rattle.tv_base.proofs.Numbers.{vnum-small, vnum-large}
use Rattle.tv_heap.specs.TypeCode.{type_code}
use Rattle.tv_heap.proofs.write.push_place.Goals as goal

pub returns-then-address-lt128-clause-ok : goal.returns-then-address-lt128-clause-ok
returns-then-address-lt128-clause-ok c =
    let at = c.args.place.address in
    let one : type_code c.args.place.value_type ∷ (at + 128) ∷ [] ≡ type_code c.args.place.value_type ∷ vnum at = ap (λ z. type_code c.args.place.value_type ∷ z) (sym (vnum-small at c.if-address-lt128.true)) in
    extends_ok c.extend_from_chunk.result _ _ (ap (λ k. k ∷ (at + 128) ∷ []) c.to_code-code.ensures ∙ one) c.extend_from_chunk.ensures

-- two bytes
pub returns-then-address-lt16384-clause-ok : goal.returns-then-address-lt16384-clause-ok
returns-then-address-lt16384-clause-ok c =
    let at = c.args.place.address in
    let small = c.if-address-lt16384.true in
    let two : vnum at ≡ at % 128 ∷ (at / 128 + 128) ∷ [] = vnum-large at c.if-address-lt128.false (omega (arith, small)) ∙ ap (λ z. at % 128 ∷ z) (vnum-small (at / 128) (omega (arith, small))) in
    extends_ok c.extend_from_slice.result _ _ (ap (λ k. k ∷ at % 128 ∷ (at / 128 + 128) ∷ []) c.to_code-code.ensures ∙ ap (λ z. type_code c.args.place.value_type ∷ z) (sym two)) c.extend_from_slice.ensures
