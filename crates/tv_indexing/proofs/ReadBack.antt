-- The texts of values, as fields read them.
use Rattle.std.proofs.Common.{rules, ◌≡◌, ◌<◌, ◌≤◌, ◌^◌, ℕ, zero, suc, true, false, List, [], ◌∷◌, get_or, Option, Some, Ok, inl, refl, sym, ap, subst, ◌∙◌, arith}
use Rattle.std.specs.Prelude.{ℤ, pos, negsuc, FitsSigned}
use Rattle.std.specs.Fmt.{decimal, signed_decimal}
use Rattle.std.specs.Int.{w64}
use Rattle.std.specs.Str.Parse.{IsNumeral, digits_value, signed_digits_value, starts_with_minus, without_leading_plus, without_leading_sign}
use Rattle.std.proofs.lemmas.Bool.Decides.{nat_tests}
use Rattle.std.proofs.lemmas.Fmt.{decimal_digit, decimal_is_IsNumeral, first_decimal}
use Rattle.std.proofs.lemmas.Int.{ints}
use Rattle.std.proofs.lemmas.Str.Parse.{without_leading_plus_none}
use Rattle.base64.specs.Engines.{standard}
use Rattle.base64.proofs.EngineFacts.{decode_of-encode_of}
use Rattle.tv_base.specs.Facet.{parse, printed}
use Rattle.tv_date.specs.Printed.{moment_text}
use Rattle.tv_date.specs.Rfc3339.{rfc}
use Rattle.tv_field.specs.JsonAnswer.{WritesValue}
use Rattle.tv_field.specs.JsonTable.{IsUnsignedText}
use Rattle.tv_field.specs.declared.field_type.FieldType.{FieldType}
use Rattle.tv_field.specs.declared.field_type.FieldType.TheVariants as types
use Rattle.tv_format.specs.Tree.{Leaf, text, unsigned, signed, boolean, date, facet, bytes, leaf}
use Rattle.tv_indexing.specs.LeafTerms.{leaf_value}
use Rattle.tv_indexing.specs.TermText.{IsTermOfField, leaf_text}
use Rattle.tv_indexing.specs.TextTerms.{TermOfText}
use Rattle.tv_date.specs.DateTime.{truncated}
use Rattle.tv_date.specs.declared.date_time.DateTimePrecision.TheVariants.{Seconds}
use Rattle.tv_term.specs.Key.{TermValue, Text, Unsigned, Signed, Truth, Date, Facet, Bytes, Fits, term}
use Rattle.tv_value.specs.declared.field.Field.{Field}

-- a number's first character is a digit
first_digit : (n : ℕ) → n < 2 ^ 64 → 48 ≤ get_or (decimal n) 0 0
first_digit zero small = rw (decimal_digit 0 (omega arith)) (omega arith)
first_digit (suc n) small = let above = first_decimal (suc n) (omega arith) small in omega arith

no_plus : (n : ℕ) → n < 2 ^ 64 → without_leading_plus (decimal n) ≡ decimal n
no_plus n small = let first = first_digit n small in without_leading_plus_none (decimal n) (λ e. omega arith)

no_minus : (n : ℕ) → n < 2 ^ 64 → starts_with_minus (decimal n) ≡ false
no_minus n small = let first = first_digit n small in grind (arith, nat_tests)

unsigned_back : (n : ℕ) → n < 2 ^ 64 → IsUnsignedText (decimal n) × (digits_value 10 (without_leading_plus (decimal n)) ≡ n)
unsigned_back n small =
    let is = decimal_is_IsNumeral n small in
    let value : digits_value 10 (without_leading_plus (decimal n)) ≡ n = ap (digits_value 10) (no_plus n small) ∙ is.1 in
    ((subst (IsNumeral 10) (sym (no_plus n small)) is.0, omega arith), value)

no_sign : (n : ℕ) → n < 2 ^ 64 → without_leading_sign (decimal n) ≡ decimal n
no_sign n small = rw (no_minus n small) (no_plus n small)

signed_back : (z : ℤ) → FitsSigned w64 z → IsNumeral 10 (without_leading_sign (signed_decimal z)) × (signed_digits_value 10 (signed_decimal z) ≡ z)
signed_back (pos n) fits =
    let small : n < 2 ^ 64 = omega (arith, ints) in
    let is = decimal_is_IsNumeral n small in
    (subst (IsNumeral 10) (sym (no_sign n small)) is.0, rw (no_minus n small) (ap pos (ap (digits_value 10) (no_plus n small) ∙ is.1)))
signed_back (negsuc n) fits =
    let small : suc n < 2 ^ 64 = omega (arith, ints) in
    let is = decimal_is_IsNumeral (suc n) small in
    (is.0, rw is.1 refl)

pub text_is_read : (type : FieldType) (l : Leaf) → ((encoded : List ℕ) → parse (printed encoded) ≡ Some encoded) → ((z : ℤ) → FitsSigned w64 z → rfc (moment_text z) ≡ Ok z) → IsTermOfField type l → WritesValue type (leaf_text l) l
text_is_read (types.Str options) (text t) facets dates is = refl
text_is_read (types.U64 options) (unsigned n) facets dates is = let back = unsigned_back n is in inl (back.0, ap (λ m. Ok (leaf (unsigned m))) (sym back.1))
text_is_read (types.I64 options) (signed z) facets dates is =
    let back = signed_back z is in inl ((back.0, subst (FitsSigned w64) (sym back.1) is), ap (λ m. Ok (leaf (signed m))) (sym back.1))
text_is_read (types.Bool options) (boolean true) facets dates is = refl
text_is_read (types.Bool options) (boolean false) facets dates is = refl
text_is_read (types.Date options) (date z) facets dates is = rw (dates z is) refl
text_is_read (types.Facet options) (facet encoded) facets dates is = rw (facets encoded) refl
text_is_read (types.Bytes options) (bytes bs) facets dates is = rw (decode_of-encode_of standard bs (search rules) is) refl
text_is_read type l facets dates is = absurd is

value_same : (a b : TermValue) → ◌≡◌ {A = Option TermValue} (Some a) (Some b) → a ≡ b
value_same a b e = cc

pub term_is_read : (field : Field) (type : FieldType) (l : Leaf) (value : TermValue) → WritesValue type (leaf_text l) l → IsTermOfField type l → leaf_value l ≡ Some value → Fits value → TermOfText field type (leaf_text l) (Ok (term field.id value ∷ []))
term_is_read field (types.Str options) (text t) value writes is e fits =
    let same = value_same (Text t) value e in (text t, writes, subst Fits (sym same) fits, ap (λ v. Ok (term field.id v ∷ [])) same)
term_is_read field (types.U64 options) (unsigned n) value writes is e fits =
    let same = value_same (Unsigned n) value e in (unsigned n, writes, subst Fits (sym same) fits, ap (λ v. Ok (term field.id v ∷ [])) same)
term_is_read field (types.I64 options) (signed z) value writes is e fits =
    let same = value_same (Signed z) value e in (signed z, writes, subst Fits (sym same) fits, ap (λ v. Ok (term field.id v ∷ [])) same)
term_is_read field (types.Bool options) (boolean b) value writes is e fits =
    let same = value_same (Truth b) value e in (boolean b, writes, subst Fits (sym same) fits, ap (λ v. Ok (term field.id v ∷ [])) same)
term_is_read field (types.Date options) (date z) value writes is e fits =
    let same = value_same (Date (truncated Seconds z)) value e in (date z, writes, subst Fits (sym same) fits, ap (λ v. Ok (term field.id v ∷ [])) same)
term_is_read field (types.Facet options) (facet encoded) value writes is e fits =
    let same = value_same (Facet encoded) value e in (facet encoded, writes, subst Fits (sym same) fits, ap (λ v. Ok (term field.id v ∷ [])) same)
term_is_read field (types.Bytes options) (bytes bs) value writes is e fits =
    let same = value_same (Bytes bs) value e in (bytes bs, writes, subst Fits (sym same) fits, ap (λ v. Ok (term field.id v ∷ [])) same)
term_is_read field type l value writes is e fits = absurd is
