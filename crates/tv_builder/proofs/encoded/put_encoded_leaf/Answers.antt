use Rattle.std.proofs.Common.{◌≡◌, Option, None, IfSome, refl, sym, ◌∙◌, subst}
use Rattle.std.specs.Int.{w64}
use Rattle.std.proofs.lemmas.Int.{to_z-of_z}
use Rattle.tv_format.specs.Content.{no_content, truth_content, unsigned_content, wide_content, text_content, bytes_content, tokens_content}
use Rattle.tv_value.specs.PreTokenized.{text_of, tokens_of}
use Rattle.tv_format.proofs.Prefixes.{begins_nothing}
use Rattle.tv_value.proofs.Found.{same_signed}
use Rattle.tv_builder.proofs.Encoding.{leaf_encoded}
use Rattle.tv_builder.proofs.encoded.put_encoded_leaf.Goals as goal

nothing_found : {T : Type 0} (r : Option T) (P : T → Type 0) → r ≡ None → IfSome r P
nothing_found r P is = subst (λ z. IfSome z P) (sym is) tt

pub returns-in_ok-place-in-Nothing-clause-found : goal.returns-in_ok-place-in-Nothing-clause-found
returns-in_ok-place-in-Nothing-clause-found c =
    λ version. leaf_encoded version c.in_ok-leaf_type.leaf_type no_content _ _ _ _ _ _ c.in_ok-leaf_type.ensures.some (sym c.in-Nothing.is ∙ c.form.ensures) (begins_nothing c.args.bytes.now refl) c.in_ok-place-in-Nothing.ensures.found

pub returns-in_ok-place-in-Truth-clause-found : goal.returns-in_ok-place-in-Truth-clause-found
returns-in_ok-place-in-Truth-clause-found c =
    λ version. leaf_encoded version c.in_ok-leaf_type.leaf_type (truth_content c.in_ok-truth-in-Truth.truth) _ _ _ _ _ _ c.in_ok-leaf_type.ensures.some (sym c.in-Truth.is ∙ c.form.ensures) c.in_ok-truth-in-Truth.ensures c.in_ok-place-in-Truth.ensures.found

pub returns-in_ok-place-in-Unsigned-clause-found : goal.returns-in_ok-place-in-Unsigned-clause-found
returns-in_ok-place-in-Unsigned-clause-found c =
    λ version. leaf_encoded version c.in_ok-leaf_type.leaf_type (unsigned_content c.in_ok-number-in-Unsigned.number) _ _ _ _ _ _ c.in_ok-leaf_type.ensures.some (sym c.in-Unsigned.is ∙ c.form.ensures) c.in_ok-number-in-Unsigned.ensures c.in_ok-place-in-Unsigned.ensures.found

pub returns-in_ok-place-in-Signed-clause-found : goal.returns-in_ok-place-in-Signed-clause-found
returns-in_ok-place-in-Signed-clause-found c =
    λ version. leaf_encoded version c.in_ok-leaf_type.leaf_type _ _ _ _ _ _ _ c.in_ok-leaf_type.ensures.some (sym c.in-Signed.is ∙ c.form.ensures) (same_signed c.args.bytes.now c.in_ok-number-in-Signed.rest.now c.in_ok-number-in-Signed.number _ c.in_ok-number-in-Signed.ensures (to_z-of_z w64 c.in_ok-number-in-Signed.number c.in_ok-number-in-Signed.ensures.encoded.fits)) c.in_ok-place-in-Signed.ensures.found

pub returns-in_ok-place-in-Wide-clause-found : goal.returns-in_ok-place-in-Wide-clause-found
returns-in_ok-place-in-Wide-clause-found c =
    λ version. leaf_encoded version c.in_ok-leaf_type.leaf_type (wide_content c.in_ok-number-in-Wide.number) _ _ _ _ _ _ c.in_ok-leaf_type.ensures.some (sym c.in-Wide.is ∙ c.form.ensures) c.in_ok-number-in-Wide.ensures c.in_ok-place-in-Wide.ensures.found

pub returns-in_ok-place-in-Text-clause-found : goal.returns-in_ok-place-in-Text-clause-found
returns-in_ok-place-in-Text-clause-found c =
    λ version. leaf_encoded version c.in_ok-leaf_type.leaf_type (text_content c.in_ok-text-in-Text.text.now) _ _ _ _ _ _ c.in_ok-leaf_type.ensures.some (sym c.in-Text.is ∙ c.form.ensures) c.in_ok-text-in-Text.ensures.found c.in_ok-place-in-Text.ensures.found

pub returns-in_ok-place-in-Bytes-clause-found : goal.returns-in_ok-place-in-Bytes-clause-found
returns-in_ok-place-in-Bytes-clause-found c =
    λ version. leaf_encoded version c.in_ok-leaf_type.leaf_type (bytes_content c.in_ok-content-in-Bytes.content.now) _ _ _ _ _ _ c.in_ok-leaf_type.ensures.some (sym c.in-Bytes.is ∙ c.form.ensures) c.in_ok-content-in-Bytes.ensures c.in_ok-place-in-Bytes.ensures.found

pub returns-in_ok-place-in-Tokens-clause-found : goal.returns-in_ok-place-in-Tokens-clause-found
returns-in_ok-place-in-Tokens-clause-found c =
    λ version. leaf_encoded version c.in_ok-leaf_type.leaf_type (tokens_content (text_of c.in_ok-text-in-Tokens.text) (tokens_of c.in_ok-text-in-Tokens.text)) _ _ _ _ _ _ c.in_ok-leaf_type.ensures.some (sym c.in-Tokens.is ∙ c.form.ensures) c.in_ok-text-in-Tokens.ensures c.in_ok-place-in-Tokens.ensures.found
