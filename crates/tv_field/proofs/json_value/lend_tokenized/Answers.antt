use Rattle.std.specs.declared.alloc.AllocError.{AllocError}
use Rattle.std.proofs.Common.{◌≡◌, [], true, Ok, subst, sym, ap, ◌∙◌, rules, codes, append-nil}
use Rattle.serde_json.specs.View.{view as data_of}
use Rattle.tv_format.specs.Short.{short_tokenized}
use Rattle.tv_format.specs.Tree.{leaf}
use Rattle.tv_format.proofs.ShortEncodings.{tokenized_of}
use Rattle.tv_field.specs.JsonTable.{leaf_or, mismatch}
use Rattle.tv_field.specs.JsonTokens.{IsTokenizedEncoded}
use Rattle.tv_field.proofs.JsonTokens.{encoded_once}
use Rattle.tv_field.proofs.json_value.lend_tokenized.Goals as goal

pub unreachable-requires : goal.unreachable-requires
unreachable-requires c =
    let bytes = c.encode_tokenized.new.bytes.items in
    let found : c.in_ok-is_tokenized.is_tokenized ≡ true = search rules in
    let h = subst (λ b. IsTokenizedEncoded {E = AllocError} (data_of c.args.json.now) bytes (Ok b)) found c.in_ok-is_tokenized.ensures in
    (c.in-None.ensures.none h.0 h.1).none (short_tokenized h.0 h.1) [] (c.as_slice.ensures ∙ h.5 ∙ sym (append-nil (short_tokenized h.0 h.1))) (tokenized_of h.0 h.1 h.3 h.4)

pub returns : goal.returns
returns c =
    let bytes = c.encode_tokenized.new.bytes.items in
    let found : c.in_ok-is_tokenized.is_tokenized ≡ true = search rules in
    let h = subst (λ b. IsTokenizedEncoded {E = AllocError} (data_of c.args.json.now) bytes (Ok b)) found c.in_ok-is_tokenized.ensures in
    let d = data_of c.args.json.now in
    ap (λ l. Ok (leaf l)) (encoded_once c.as_slice.result.now h.0 _ h.1 _ _ h.3 h.4 (c.as_slice.ensures ∙ h.5) c.in-Some.ensures.found.1)
    ∙ ap (λ o. leaf_or o (mismatch (codes "a string or an pretokenized string") d)) (sym h.2)
