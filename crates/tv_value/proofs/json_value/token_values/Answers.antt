use Rattle.std.proofs.Common.{◌≡◌, ◌∷◌, [], sym, ap, ◌∙◌, rules}
use Rattle.serde_json.specs.Data.{item}
use Rattle.tv_value.specs.PreTokenized.{tokens_left}
use Rattle.tv_value.specs.TokenRef.{ref_of}
use Rattle.tv_value.specs.JsonOf.{tokens_json}
use Rattle.tv_value.proofs.JsonParts.{items_before, items_before-no_items, items_push}
use Rattle.tv_value.proofs.json_value.token_values.Goals as goal

pub loop-token-preserved : goal.loop-token-preserved
loop-token-preserved c =
    let rest = tokens_json (tokens_left c.next.new.self) in
    let values = c.loop-token.values.items in
    let cut : tokens_left c.loop-token.token-iterator ≡ ref_of c.in-Some.token ∷ tokens_left c.next.new.self = search rules in
    ap (λ vs. items_before vs rest) c.in_ok-push.ensures.items ∙ items_push values c.in_ok-value.value rest
    ∙ ap (λ d. items_before values (item d rest)) c.in_ok-value.ensures ∙ ap (λ ts. items_before values (tokens_json ts)) (sym cut) ∙ c.loop-token.invariant

pub returns : goal.returns
returns c =
    let values = c.loop-token.values.items in
    let none : tokens_left c.loop-token.token-iterator ≡ [] = search rules in
    let same : tokens_left c.into_iter-token-iterator.result ≡ tokens_left c.args.tokens = search rules in
    sym (items_before-no_items values) ∙ ap (λ ts. items_before values (tokens_json ts)) (sym none) ∙ c.loop-token.invariant ∙ ap tokens_json same
