-- Any bytes begin with a leaf of a code, a key or a field, or they are malformed there.
use Rattle.std.proofs.Common.{◌≡◌, ◌≢◌, ℕ, zero, suc, ◌≤◌, Bool, true, false, List, [], ◌∷◌, ◌++◌, length, refl, sym, ap, subst, arith, inl, inr}
use Rattle.std.specs.Prelude.{ℤ, pos, negsuc, ◌*ℤ◌, ◌≤ℤ◌, ◌<ℤ◌}
use Rattle.std.specs.Int.Signed.{lt_z}
use Rattle.std.proofs.lemmas.Bool.{cases_lt}
use Rattle.std.proofs.lemmas.Bool.Decides.{eqb_tells}
use Rattle.std.proofs.lemmas.Int.{ints}
use Rattle.tv_base.specs.declared.cause.Cause.{Cause}
use Rattle.tv_base.specs.declared.cause.Cause.TheVariants.{UnexpectedEnd, UnknownTypeCode, FloatCode, UnknownExtCode, DateRange}
use Rattle.tv_base.specs.Number.{VNum, Fixed, Signed}
use Rattle.tv_base.specs.Parts.{Behind, Text}
use Rattle.tv_base.specs.ErrorInPart.{InThen, InEach, ErrorInNumber, ErrorInBytes, ErrorInText}
use Rattle.tv_base.specs.Source.{AllBytes}
use Rattle.tv_base.proofs.AgreeNumbers.{vint_agrees}
use Rattle.tv_base.proofs.AgreeParts.{sized_agrees, text_agrees}
use Rattle.tv_base.proofs.AgreeTruth.{truth_agrees}
use Rattle.tv_base.proofs.AgreeWidths.{bytes_error, u32_agrees, u64_agrees, u128_agrees, i64_agrees}
use Rattle.tv_base.proofs.Deciding.{Decided, begins, malformed, Decides, Both, Items, decides_as, behind_code, decides_then, decides_each, decides_by}
use Rattle.tv_base.proofs.SmallBytes.{bytes_after}
use Rattle.tv_format.specs.InputError.{corrupted, no_text_key, Corrupt, corrupt, ErrorInToken, ErrorInTokenized, ErrorInMicroseconds, date_ends, date_range, ErrorInScaled, ErrorInExtension, no_extension, other_extension, in_tokenized, ErrorInContent, ErrorInBody, ErrorInLeaf, ErrorInCodedKey, key_ends, key_unknown, key_float, key_other, key_no_extension, key_tokenized, key_other_extension, in_key, ErrorInKey}
use Rattle.tv_format.specs.Encoding.{TokenEncoding, Tokenized, leaf_code, ContentBody, LeafBody, Key}
use Rattle.tv_format.specs.Content.{Content, no_content, truth_content, unsigned_content, signed_content, wide_content, text_content, bytes_content, tokens_content, form_of}
use Rattle.tv_format.specs.Leaves.{content, form, store_code, last_code, scale}
use Rattle.tv_format.specs.LeavesLaws.{making}
use Rattle.tv_format.specs.Tree.{Token, Leaf}
use Rattle.tv_format.specs.Version.{Version, V1, V2, V3, Scale, plain, thousands, Scaled, Microseconds}
use Rattle.tv_format.specs.declared.leaf_type.Form.{Form}
use Rattle.tv_format.specs.declared.leaf_type.Form.TheVariants as forms
use Rattle.tv_format.specs.declared.leaf_type.LeafType.{LeafType}

-- ---- dates

pub below : (a b : ℤ) → lt_z a b ≡ true → a <ℤ b
below a b e = omega (arith, ints)

pub at_least : (a b : ℤ) → lt_z a b ≡ false → b ≤ℤ a
at_least a b e = omega (arith, ints)

above : (z : ℤ) (whole prefix rest : List ℕ) (b : Bool) → lt_z (pos 9223372036854775) z ≡ b → whole ≡ prefix ++ rest → Signed prefix z → negsuc 9223372036854774 ≤ℤ z → Decided Microseconds ErrorInMicroseconds whole
above z whole prefix rest true e joined s from = malformed DateRange (date_range z prefix rest joined s.encoded (record { fits = s.fits; outside = inr (below (pos 9223372036854775) z e) }))
above z whole prefix rest false e joined s from =
    begins (z *ℤ pos 1000) prefix rest joined (record { microseconds = z; from = from; to = at_least (pos 9223372036854775) z e; same = refl; encoded = s.encoded })

ranged : (z : ℤ) (whole prefix rest : List ℕ) (b : Bool) → lt_z z (negsuc 9223372036854774) ≡ b → whole ≡ prefix ++ rest → Signed prefix z → Decided Microseconds ErrorInMicroseconds whole
ranged z whole prefix rest true e joined s = malformed DateRange (date_range z prefix rest joined s.encoded (record { fits = s.fits; outside = inl (below z (negsuc 9223372036854774) e) }))
ranged z whole prefix rest false e joined s = above z whole prefix rest (lt_z (pos 9223372036854775) z) refl joined s (at_least z (negsuc 9223372036854774) e)

microseconds : (whole : List ℕ) → Decided Signed (ErrorInBytes 8) whole → Decided Microseconds ErrorInMicroseconds whole
microseconds whole (begins z prefix rest joined s) = ranged z whole prefix rest (lt_z z (negsuc 9223372036854774)) refl joined s
microseconds whole (malformed c f) = let q = bytes_error 8 whole c f in malformed c (subst (ErrorInMicroseconds whole) (sym q.0) (date_ends q.1))

decides_scaled : (most : ℕ) (s : Scale) → Decides most (Scaled s) (ErrorInScaled s)
decides_scaled most plain = decides_by most i64_agrees
decides_scaled most thousands = record { decides = λ whole small le. microseconds whole ((decides_by most i64_agrees).decides whole small le) }

-- ---- texts with their tokens

abbrev Named : List ℕ → List ℕ × ℕ → Type 0
Named = Both Text (λ _. VNum)

abbrev Placed : List ℕ → ℕ × (List ℕ × ℕ) → Type 0
Placed = Both VNum (λ _. Named)

abbrev Ended : List ℕ → ℕ × (ℕ × (List ℕ × ℕ)) → Type 0
Ended = Both VNum (λ _. Placed)

decides_token : (most : ℕ) → Decides most TokenEncoding ErrorInToken
decides_token most =
    let number = decides_by most vint_agrees in
    let named = decides_then ErrorInText Text (λ _. VNum) (λ _. ErrorInNumber) (decides_by most text_agrees) (λ _. number) in
    let placed = decides_then ErrorInNumber VNum (λ _. Named) (λ _. InThen ErrorInText Text (λ _. ErrorInNumber)) number (λ _. named) in
    let ended = decides_then ErrorInNumber VNum (λ _. Placed) (λ _. InThen ErrorInNumber VNum (λ _. InThen ErrorInText Text (λ _. ErrorInNumber))) number (λ _. placed) in
    decides_as TokenEncoding ErrorInToken (λ p. record { offset_from = p.0; offset_to = p.1.0; position = p.1.1.0; text = p.1.1.1.0; position_length = p.1.1.1.1 }) (λ c. c) (λ b p h. h) (λ b c f. f)
    (decides_then ErrorInNumber VNum (λ _. Ended) (λ _. InThen ErrorInNumber VNum (λ _. InThen ErrorInNumber VNum (λ _. InThen ErrorInText Text (λ _. ErrorInNumber)))) number (λ _. ended))

abbrev TokenList : List ℕ → ℕ × List Token → Type 0
TokenList = Both VNum (Items TokenEncoding)

abbrev TokenizedPair : List ℕ → List ℕ × List Token → Type 0
TokenizedPair whole pair = Tokenized whole pair.0 pair.1

token_list : (whole : List ℕ) (p : List ℕ × (ℕ × List Token)) → Both Text (λ _. TokenList) whole p → Tokenized whole p.0 p.1.1
token_list whole p h = record {
  prefix = h.prefix;
  rest = h.rest;
  joined = h.joined;
  first = h.first;
  second = record { prefix = h.second.prefix; rest = h.second.rest; joined = h.second.joined; first = subst (VNum h.second.prefix) (sym h.second.second.0) h.second.first; second = h.second.second.1 };
}

decides_tokenized : (most : ℕ) → Decides most TokenizedPair ErrorInTokenized
decides_tokenized most =
    decides_as TokenizedPair ErrorInTokenized (λ p. (p.0, p.1.1)) (λ c. c) token_list (λ b c f. f)
    (decides_then ErrorInText Text (λ _. TokenList) (λ _. InThen ErrorInNumber VNum (InEach ErrorInToken TokenEncoding)) (decides_by most text_agrees)
    (λ _. decides_then ErrorInNumber VNum (Items TokenEncoding) (InEach ErrorInToken TokenEncoding) (decides_by most vint_agrees) (decides_each ErrorInToken TokenEncoding (decides_token most))))

-- ---- leaves

-- a leaf of a code, and what is wrong with bytes after the code
abbrev pub LeafAt : Version → ℕ → List ℕ → Leaf → Type 0
LeafAt v code whole l = (leaf_code l ≡ code) × LeafBody v whole l

abbrev pub LeafWrong : Version → ℕ → List ℕ → Cause → Type 0
LeafWrong v code whole c = ErrorInLeaf v whole code c

-- content of a form
abbrev ContentOf : Scale → Form → List ℕ → Content → Type 0
ContentOf s f whole h = (form_of h ≡ f) × ContentBody s whole h

extended : (most : ℕ) (s : Scale) (whole : List ℕ) → AllBytes whole → length whole ≤ suc most → Decided (ContentOf s forms.Tokens) ErrorInExtension whole
extended most s [] small le = malformed UnexpectedEnd (no_extension refl)
extended most s (zero ∷ rest) small le =
    behind_code (ContentOf s forms.Tokens) ErrorInExtension (λ p. tokens_content p.0 p.1) (λ c. c) 0 (λ b p h. (refl, record { body = b; joined = refl; encoded = h })) (λ b c f. in_tokenized b refl f)
    (decides_tokenized most) rest (bytes_after (zero ∷ rest) (zero ∷ []) rest refl small) (omega arith)
extended most s (suc n ∷ rest) small le = malformed (UnknownExtCode (suc n)) (other_extension rest refl (λ e. omega (arith, e)))

decides_content : (most : ℕ) (s : Scale) (f : Form) → Decides most (ContentOf s f) (ErrorInContent s f)
decides_content most s forms.Nothing = record { decides = λ whole small le. begins no_content [] whole refl (refl, refl) }
decides_content most s forms.Truth = decides_as (ContentOf s forms.Truth) (ErrorInContent s forms.Truth) truth_content (λ c. c) (λ b x h. (refl, h)) (λ b c f. f) (decides_by most truth_agrees)
decides_content most s forms.Unsigned = decides_as (ContentOf s forms.Unsigned) (ErrorInContent s forms.Unsigned) unsigned_content (λ c. c) (λ b x h. (refl, h)) (λ b c f. f) (decides_by most u64_agrees)
decides_content most s forms.Signed = decides_as (ContentOf s forms.Signed) (ErrorInContent s forms.Signed) signed_content (λ c. c) (λ b x h. (refl, h)) (λ b c f. f) (decides_scaled most s)
decides_content most s forms.Wide = decides_as (ContentOf s forms.Wide) (ErrorInContent s forms.Wide) wide_content (λ c. c) (λ b x h. (refl, h)) (λ b c f. f) (decides_by most u128_agrees)
decides_content most s forms.Text = decides_as (ContentOf s forms.Text) (ErrorInContent s forms.Text) text_content (λ c. c) (λ b x h. (refl, h)) (λ b c f. f) (decides_by most text_agrees)
decides_content most s forms.Bytes = decides_as (ContentOf s forms.Bytes) (ErrorInContent s forms.Bytes) bytes_content (λ c. c) (λ b x h. (refl, h)) (λ b c f. f) (decides_by most sized_agrees)
decides_content most s forms.Tokens = record { decides = λ whole small le. extended most s whole small (omega arith) }

leaf_found : (v : Version) (t : LeafType) (whole : List ℕ) → Decided (ContentOf (scale v t) (form t)) (ErrorInBody v t) whole → Decided (LeafAt v (store_code t)) (LeafWrong v (store_code t)) whole
leaf_found v t whole (begins h prefix rest joined p) =
    let m = making t h p.0 in
    begins m.made prefix rest joined (ap store_code m.typed, subst (λ s. ContentBody s prefix (content m.made)) (ap (scale v) (sym m.typed)) (subst (ContentBody (scale v t) prefix) (sym m.holds) p.1))
leaf_found v t whole (malformed c f) = malformed c (record { of_type = t; coded = refl; error = f })

-- a leaf of each type
pub decides_leaf : (most : ℕ) (v : Version) (t : LeafType) → Decides most (LeafAt v (store_code t)) (LeafWrong v (store_code t))
decides_leaf most v t = record { decides = λ whole small le. leaf_found v t whole ((decides_content most (scale v t) (form t)).decides whole small le) }

-- ---- keys

abbrev CodedKey : List ℕ → List ℕ → Type 0
CodedKey whole k = Behind 0 (λ b. Text b k) whole

text_key : (most : ℕ) (rest : List ℕ) → AllBytes rest → length rest ≤ most → Decided CodedKey ErrorInCodedKey (0 ∷ rest)
text_key most rest small le =
    behind_code CodedKey ErrorInCodedKey (λ k. k) corrupted 0 (λ b k h. record { body = b; joined = refl; encoded = h }) (λ b c f. in_key f) (decides_by most text_agrees) rest small le

extended_key : (rest : List ℕ) → Decided CodedKey ErrorInCodedKey (7 ∷ rest)
extended_key [] = malformed (corrupted UnexpectedEnd) key_no_extension
extended_key (zero ∷ rest) = malformed (no_text_key 7) key_tokenized
extended_key (suc n ∷ rest) = malformed (corrupted (UnknownExtCode (suc n))) (key_other_extension (λ e. omega (arith, e)))

other_key : (b : ℕ) (rest : List ℕ) → b ≢ 0 → b ≢ 6 → b ≢ 7 → Decided CodedKey ErrorInCodedKey (b ∷ rest)
other_key b rest not_text not_float not_extended = elim (cases_lt b (suc last_code)) as (λ _. Decided CodedKey ErrorInCodedKey (b ∷ rest)) [
  | inl less ↦ malformed (no_text_key b) (key_other (omega arith) (omega (arith, less)) not_float not_extended)
  | inr more ↦ malformed (corrupted (UnknownTypeCode b)) (key_unknown (omega (arith, more)))
]

key_behind : (most b : ℕ) (rest : List ℕ) → AllBytes rest → length rest ≤ most → Decided CodedKey ErrorInCodedKey (b ∷ rest)
key_behind most b rest small le =
    let Goal = λ (n : ℕ). Decided CodedKey ErrorInCodedKey (n ∷ rest) in
    elim (eqb_tells b 0) as (λ _. Goal b) [
      | inl p ↦ subst Goal (sym p.1) (text_key most rest small le)
      | inr p ↦ elim (eqb_tells b 6) as (λ _. Goal b) [
        | inl q ↦ subst Goal (sym q.1) (malformed (corrupted FloatCode) key_float)
        | inr q ↦ elim (eqb_tells b 7) as (λ _. Goal b) [ inl r ↦ subst Goal (sym r.1) (extended_key rest) | inr r ↦ other_key b rest p.1 q.1 r.1 ]
      ]
    ]

coded_key : (most : ℕ) (whole : List ℕ) → AllBytes whole → length whole ≤ most → Decided CodedKey ErrorInCodedKey whole
coded_key most [] small le = malformed (corrupted UnexpectedEnd) key_ends
coded_key most (b ∷ rest) small le = key_behind most b rest (bytes_after (b ∷ rest) (b ∷ []) rest refl small) (omega arith)

pub decides_key : (most : ℕ) (v : Version) → Decides most (Key v) (ErrorInKey v)
decides_key most V1 = record { decides = coded_key most }
decides_key most V2 = record { decides = coded_key most }
decides_key most V3 = decides_as (Key V3) (ErrorInKey V3) (λ k. k) corrupted (λ b k h. h) (λ b c f. corrupt f) (decides_by most text_agrees)

-- ---- fields

pub decides_field : (most : ℕ) → Decides most (Fixed 4) (Corrupt (ErrorInBytes 4))
decides_field most = decides_as (Fixed 4) (Corrupt (ErrorInBytes 4)) (λ n. n) corrupted (λ b n h. h) (λ b c f. corrupt f) (decides_by most u32_agrees)
