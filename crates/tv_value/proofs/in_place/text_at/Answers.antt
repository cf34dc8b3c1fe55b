use Rattle.std.proofs.Common.{◌≡◌, true, false, take, drop, refl, subst, sym, ◌∙◌}
use Rattle.std.specs.Str.{IsUtf8}
use Rattle.tv_base.specs.Parts.{Begins, Text}
use Rattle.tv_format.proofs.Prefixes.{sized_found, text_found}
use Rattle.tv_value.proofs.InPlace.{if_none, text_none, text_ends, text_wrong}
use Rattle.tv_value.proofs.in_place.text_at.Goals as goal

pub returns-in_err-len-clause-none : goal.returns-in_err-len-clause-none
returns-in_err-len-clause-none c = if_none c.from_residual.result (text_none c.args.bytes.now c.in_err-len.ensures.none)

pub returns-then-behind_len-len-clause-none : goal.returns-then-behind_len-len-clause-none
returns-then-behind_len-len-clause-none c = text_ends c.args.bytes.now c.in_ok-len.behind_len.now c.in_ok-len.len c.in_ok-len.ensures.found c.if-behind_len-len.true

pub returns-then-not-is_utf8_prefix-clause-none : goal.returns-then-not-is_utf8_prefix-clause-none
returns-then-not-is_utf8_prefix-clause-none c =
    let behind = c.in_ok-len.behind_len.now in
    let len = c.in_ok-len.len in
    let sized = sized_found c.args.bytes.now behind (take len behind) (drop len behind) len c.in_ok-len.ensures.found c.if-behind_len-len.false refl refl in
    text_wrong c.args.bytes.now (drop len behind) (take len behind) sized (λ u. let t : true ≡ false = sym (c.is_utf8_prefix.ensures.1 u) ∙ c.if-not-is_utf8_prefix.true in cc)

pub returns-clause-found : goal.returns-clause-found
returns-clause-found c =
    let content = c.split_at.result.0.now in
    let rest = c.split_at.result.1.now in
    let sized =
    sized_found c.args.bytes.now c.in_ok-len.behind_len.now content rest c.in_ok-len.len c.in_ok-len.ensures.found c.if-behind_len-len.false c.split_at.ensures.front c.split_at.ensures.back in
    let says : IsUtf8 content = subst IsUtf8 (sym c.split_at.ensures.front) (c.is_utf8_prefix.ensures.0 c.if-not-is_utf8_prefix.false) in
    subst (λ z. Begins (λ b. Text b z) c.args.bytes.now rest) (sym c.from_utf8_unchecked-text.ensures) (text_found c.args.bytes.now rest content sized says)
