use Rattle.std.proofs.Common.{◌≡◌, ◌-◌, length, drop, take_all, length-drop, arith, ◌∷◌, ◌∙◌, ap}
use Rattle.tv_value.proofs.Found.{tokenized_found}
use Rattle.tv_value.proofs.in_place.tokenized_at.Goals as goal

pub returns : goal.returns
returns c =
    let payload = c.in_ok-code.payload.now in
    let e : c.args.bytes.now ≡ 0 ∷ payload = c.in_ok-code.ensures.cases.0 ∙ ap (λ z. z ∷ payload) c.if-code-ne-TOK_STR_EXT_CODE.false in
    tokenized_found c.args.bytes.now payload _ c.in_ok-content.len _ _ e (take_all (length payload - c.in_ok-content.len) (drop c.in_ok-content.len payload) (omega (arith, length-drop c.in_ok-content.len payload))) c.in_ok-content.ensures.found.1
