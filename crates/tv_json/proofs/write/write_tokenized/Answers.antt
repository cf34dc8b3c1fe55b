use Rattle.std.proofs.Common.{ℕ, List, [], ◌∷◌, ◌++◌, ap, ◌∙◌}
use lib.Chars.{codes}
use Rattle.json.specs.Token as Token
use Rattle.std.proofs.lemmas.Result.{on_ok_weaker}
use Rattle.tv_value.specs.PreTokenized.{tokens_left}
use Rattle.tv_format.specs.Tree.{Token as TokenSpec}
use Rattle.tv_value.specs.JsonOf.{tokens_json, tokenized_json}
use Rattle.tv_json.specs.Rising.{data_tokens, rest_of_array}
use Rattle.tv_json.proofs.Behind.{behind}
use Rattle.tv_json.proofs.write.write_tokenized.Goals as goal

pub returns-clause-ok : goal.returns-clause-ok
returns-clause-ok c =
    let old = c.args.out.now.tokens in
    let begin = Token.begin_object ∷ [] in
    let text = Token.key (codes "text") ∷ Token.string c.text.result.now ∷ [] in
    let list = Token.key (codes "tokens") ∷ Token.begin_array ∷ [] in
    let tokens = rest_of_array (tokens_json (tokens_left c.tokens.result)) in
    let first = behind old begin text _ _ c.in_ok-begin_object.ensures.ok c.in_ok-write_text.ensures.ok in
    let second = behind old (begin ++ text) list _ _ first c.in_ok-begin_list.ensures.ok in
    let third = behind old (begin ++ text ++ list) tokens _ _ second c.in_ok-write_tokens.ensures.ok in
    let whole : List ℕ → List TokenSpec → List Token.Token = λ t ts. data_tokens (tokenized_json t ts) in
    on_ok_weaker c.end_object.result
    (λ last. behind old (begin ++ text ++ list ++ tokens) (Token.end_object ∷ []) _ _ third last ∙ ap (λ z. old ++ z) ((λ i. whole (c.text.ensures i) (c.tokens.ensures i))))
    c.end_object.ensures.ok
