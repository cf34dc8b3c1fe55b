use Rattle.std.proofs.Common.{◌≡◌, ◌++◌, ap, sym, subst, ◌∙◌, rules, string_bytes}
use Rattle.std.specs.Str.{IsUtf8}
use Rattle.json.specs.Print.{print}
use Rattle.serde_json.proofs.Texts.{print-outline}
use Rattle.tv_value.specs.JsonOf.{json_of}
use Rattle.tv_json.specs.Rising.{data_tokens}
use Rattle.tv_json.proofs.compact.push_json.Goals as goal

pub into_text-requires : goal.into_text-requires
into_text-requires g c =
    let text : string_bytes c.args.text.now ≡ c.as_str-len.result.now = search rules in
    let before : c.write_lent.new.json.out.before ≡ string_bytes c.args.text.now = search rules in
    subst IsUtf8 (sym (before ∙ text)) c.as_str-len.utf8

pub into_start-requires-clause-text : goal.into_start-requires-clause-text
into_start-requires-clause-text g c =
    let text : string_bytes c.args.text.now ≡ c.as_str-len.result.now = search rules in
    let before : c.write_lent.new.json.out.before ≡ string_bytes c.args.text.now = search rules in
    subst IsUtf8 (sym (before ∙ text)) c.as_str-len.utf8

pub returns-in-Ok-clause-ok : goal.returns-in-Ok-clause-ok
returns-in-Ok-clause-ok g c =
    let before : c.write_lent.new.json.out.before ≡ string_bytes c.args.text.now = search rules in
    let tokens : c.write_lent.new.json.out.tokens ≡ data_tokens (json_of (g.V.Value.tree c.args.value)) = search rules in
    c.into_text.ensures ∙ (λ i. before i ++ print (tokens i)) ∙ ap (λ z. string_bytes c.args.text.now ++ z) (print-outline _)
