use Rattle.std.proofs.Common.{◌≡◌, ◌++◌, ap, map, sym, subst, ◌∙◌, rules, string_bytes}
use Rattle.std.specs.Str.{IsUtf8}
use Rattle.json.specs.Print.{print}
use Rattle.serde_json.specs.Data.{object}
use Rattle.serde_json.proofs.Texts.{print-outline}
use Rattle.tv_json.specs.Named.{named_json, named_trees}
use Rattle.tv_json.specs.Rising.{data_tokens}
use Rattle.tv_json.proofs.named.push_named_json.Goals as goal

pub into_text-requires : goal.into_text-requires
into_text-requires g c =
    let text : string_bytes c.args.text.now ≡ c.as_str-len.result.now = search rules in
    let before : c.write_named.new.json.out.before ≡ string_bytes c.args.text.now = search rules in
    subst IsUtf8 (sym (before ∙ text)) c.as_str-len.utf8

pub into_start-requires-clause-text : goal.into_start-requires-clause-text
into_start-requires-clause-text g c =
    let text : string_bytes c.args.text.now ≡ c.as_str-len.result.now = search rules in
    let before : c.write_named.new.json.out.before ≡ string_bytes c.args.text.now = search rules in
    subst IsUtf8 (sym (before ∙ text)) c.as_str-len.utf8

pub returns-in-Ok-clause-ok : goal.returns-in-Ok-clause-ok
returns-in-Ok-clause-ok g c =
    let whole = object (named_json (map (named_trees g.V.Value.tree) c.args.named.now)) in
    let before : c.write_named.new.json.out.before ≡ string_bytes c.args.text.now = search rules in
    let tokens : c.write_named.new.json.out.tokens ≡ data_tokens whole = search rules in
    c.into_text.ensures ∙ (λ i. before i ++ print (tokens i)) ∙ ap (λ z. string_bytes c.args.text.now ++ z) (print-outline whole)
