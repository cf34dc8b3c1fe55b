use Rattle.std.specs.declared.alloc.AllocError.{AllocError}
use Rattle.std.proofs.Common.{◌<◌, ◌^◌, length, Ok, subst, arith, rules}
use Rattle.serde_json.specs.View.{view as data_of, items_view}
use Rattle.tv_field.specs.JsonTokens.{AreTokensEncoded}
use Rattle.tv_field.proofs.JsonTokens.{encoded_all, not_tokenized}
use Rattle.tv_field.proofs.json_tokens.encode_tokenized.Goals as goal

pub returns-then-branch : goal.returns-then-branch
returns-then-branch c =
    let items = c.in-Some-items_at.items.now in
    let few : length items.items < 2 ^ 63 = omega (arith, items.ok, items.small) in
    let encoded = subst (λ b. AreTokensEncoded {E = AllocError} (items_view items.items) c.push_number.new.bytes.items c.push_json_tokens.new.bytes.items (Ok b)) c.if-branch.true c.in_ok-push_json_tokens.ensures in
    encoded_all AllocError (data_of c.args.json.now) c.in-Some.content.now items.items _ c.push_json_tokens.new.bytes.items (search rules) (search rules) c.in_ok-push_text.ensures.valid few (search rules) encoded

pub returns : goal.returns
returns c =
    let items = c.in-Some-items_at.items.now in
    let none = subst (λ b. AreTokensEncoded {E = AllocError} (items_view items.items) c.push_number.new.bytes.items c.push_json_tokens.new.bytes.items (Ok b)) c.if-branch.false c.in_ok-push_json_tokens.ensures in
    (not_tokenized (data_of c.args.json.now) c.in-Some.content.now items.items (search rules) (search rules) none, c.clear-2.ensures.items)
