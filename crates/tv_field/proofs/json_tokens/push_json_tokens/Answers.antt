use Rattle.std.specs.declared.alloc.AllocError.{AllocError}
use Rattle.std.proofs.Common.{◌≡◌, ◌+◌, ◌<◌, ◌∷◌, drop, length, true, Ok, subst, sym, ap, ◌∙◌, arith, rules}
use Rattle.std.proofs.lemmas.List.{drop_more}
use Rattle.serde_json.specs.View.{view as data_of, items_view}
use Rattle.tv_field.specs.JsonTokens.{IsTokenEncoded}
use Rattle.tv_field.proofs.JsonTokens.{one_more_token}
use Rattle.tv_field.proofs.json_tokens.push_json_tokens.Goals as goal

pub loop-item-preserved : goal.loop-item-preserved
loop-item-preserved c =
    let xs = c.deref-item-items.result.now in
    let x = c.item-item.result in
    let i = c.loop-item.item-index in
    let within : i < length xs = omega arith in
    let next : drop i xs ≡ x ∷ drop (i + 1) xs = drop_more xs i x within ∙ ap (λ y. y ∷ drop (i + 1) xs) (sym c.item-item.is) in
    let mid = c.loop-item.bytes.items in
    let new = c.push_json_token.new.bytes.items in
    let found : c.in_ok-is_token.is_token ≡ true = search rules in
    let h = subst (λ b. IsTokenEncoded {E = AllocError} (data_of x) mid new (Ok b)) found c.in_ok-is_token.ensures in
    one_more_token (items_view xs) (items_view (drop i xs)) (items_view (drop (i + 1) xs)) (data_of x) h.0 c.args.bytes.now.items mid new c.loop-item.invariant (ap items_view next) h.1 h.2 h.3
