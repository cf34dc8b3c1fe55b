-- Readings of values that hold no others agree with their grammar.
use Rattle.std.proofs.Common.{◌≡◌, ◌⊎◌, ℕ, true, false, List, [], ◌++◌, length, Option, Some, None, Result, Ok, Err, refl, sym, ap, subst, ◌∙◌, arith, inl, inr}
use Rattle.std.specs.Prelude.{ℤ, pos, negsuc, ◌*ℤ◌, ◌≤ℤ◌, ◌<ℤ◌}
use Rattle.std.specs.Int.Signed.{lt_z}
use Rattle.std.proofs.lemmas.Int.{ints}
use Rattle.std.proofs.lemmas.List.{append-nil}
use Rattle.std.proofs.lemmas.Bool.{false_from_ne_true}
use Rattle.tv_base.specs.declared.cause.Cause.{Cause}
use Rattle.tv_base.specs.declared.cause.Cause.TheVariants.{UnexpectedEnd, DateRange, LegacyJson}
use Rattle.tv_base.specs.Source.{AllBytes}
use Rattle.tv_base.specs.Stop.{◌>>=◌}
use Rattle.tv_base.specs.Number.{VNum, Signed}
use Rattle.tv_base.specs.Parts.{Text, Each, Then}
use Rattle.tv_base.specs.ErrorInPart.{InThen, InEach, ErrorInNumber, ErrorInBytes}
use Rattle.tv_base.proofs.Agrees.{Agrees, InTurn, agrees_too, in_turn, make, made, chosen, nothing_read, nothing_stands}
use Rattle.tv_base.proofs.AgreeWidths.{bytes_error, u64_agrees, u128_agrees, i64_agrees}
use Rattle.tv_base.proofs.AgreeNumbers.{vint_agrees}
use Rattle.tv_base.proofs.AgreeParts.{sized_agrees, text_agrees, each_agrees}
use Rattle.tv_base.proofs.AgreeTruth.{truth_agrees}
use Rattle.tv_format.specs.Content.{no_content, truth_content, unsigned_content, signed_content, wide_content, text_content, bytes_content, tokens_content}
use Rattle.tv_format.specs.InputError.{ErrorInToken, ErrorInTokenized, ErrorInScaled, ErrorInDate, ErrorInMicroseconds, date_ends, date_range}
use Rattle.tv_format.specs.Leaves.{form, scale}
use Rattle.tv_format.specs.Encoding.{TokenEncoding}
use Rattle.tv_format.specs.Tree.{Token, leaf}
use Rattle.tv_format.specs.Version.{Version, V1, V2, V3, Date, Microseconds, Scaled}
use Rattle.tv_format.specs.declared.leaf_type.Form.{Form}
use Rattle.tv_format.specs.declared.leaf_type.Form.TheVariants as forms
use Rattle.tv_format.specs.declared.leaf_type.LeafType.{LeafType}
use Rattle.tv_format.specs.declared.leaf_type.LeafType.TheVariants as leaves
use Rattle.tv_format.proofs.Leaves.{fits_microseconds}
use Rattle.tv_format.proofs.DecidingLeaves.{below, at_least}
use Rattle.tv_reader.specs.LeafBodies.{TokenizedPair, HoldsByForm, ErrorInHeld, LeafOfType, ErrorInLeafOfType, LeafOf, ErrorInLeafOf}
use Rattle.tv_reader.specs.Leaves.{micros_of, date_at, token_at, tokens_at, counted_tokens_at, tokenized_at, leaf_holding, number_at, content_at, leaf_of_type, leaf_at}
use Rattle.tv_reader.specs.ValueType.{leaf_type}
use Rattle.tv_reader.specs.declared.value_type.ValueType.{ValueType}
use Rattle.tv_reader.proofs.TokenSteps.{token_with}

-- ---- dates

abbrev Ranged : ℤ → List ℕ → ℤ → Type 0
Ranged z rest n =
    ((lt_z z (negsuc 9223372036854774) ≡ true) × ⊥)
    ⊎ ((lt_z z (negsuc 9223372036854774) ≡ false) × (((lt_z (pos 9223372036854775) z ≡ true) × ⊥)
    ⊎ ((lt_z (pos 9223372036854775) z ≡ false) × ((rest ≡ []) × (n ≡ z *ℤ pos 1000)))))

abbrev ErrorInRange : ℤ → List ℕ → Cause → Type 0
ErrorInRange z rest c =
    ((lt_z z (negsuc 9223372036854774) ≡ true) × (c ≡ DateRange))
    ⊎ ((lt_z z (negsuc 9223372036854774) ≡ false) × (((lt_z (pos 9223372036854775) z ≡ true) × (c ≡ DateRange))
    ⊎ ((lt_z (pos 9223372036854775) z ≡ false) × ⊥)))

not_below : (a b : ℤ) → b ≤ℤ a → lt_z a b ≡ false
not_below a b e = false_from_ne_true (lt_z a b) (λ h. let l : a <ℤ b = below a b h in omega (arith, ints))

micros_to : (whole : List ℕ) (n : ℤ) → AllBytes whole → InTurn Signed Ranged whole n → Microseconds whole n
micros_to whole n small p = elim p.1.second [
  | inl q ↦ absurd q.1
  | inr q ↦ elim q.1 [
    | inl r ↦ absurd r.1
    | inr r ↦
        let all : p.1.prefix ≡ whole = sym (p.1.joined ∙ ap (λ (l : List ℕ). p.1.prefix ++ l) r.1.0 ∙ append-nil p.1.prefix) in
        let there = subst (λ (l : List ℕ). Signed l p.0) all p.1.first in
        record {
          microseconds = p.0;
          from = at_least p.0 (negsuc 9223372036854774) q.0;
          to = at_least (pos 9223372036854775) p.0 r.0;
          same = r.1.1;
          encoded = there.encoded;
        }
  ]
]

micros_from : (whole : List ℕ) (n : ℤ) → Microseconds whole n → InTurn Signed Ranged whole n
micros_from whole n h = (
  h.microseconds,
  record {
    prefix = whole;
    rest = [];
    joined = sym (append-nil whole);
    first = record { fits = fits_microseconds h.microseconds h.from h.to; encoded = h.encoded };
    second = inr (not_below h.microseconds (negsuc 9223372036854774) h.from, inr (not_below (pos 9223372036854775) h.microseconds h.to, (refl, h.same)));
  },
)

date_ended : (whole : List ℕ) (c : Cause) → ErrorInBytes 8 whole c → ErrorInMicroseconds whole c
date_ended whole c h = let q = bytes_error 8 whole c h in subst (ErrorInMicroseconds whole) (sym q.0) (date_ends q.1)

outside : (whole : List ℕ) (c : Cause) (z : ℤ) (p : Then (λ b. Signed b z) (λ rest. ErrorInRange z rest c) whole) → c ≡ DateRange → (z <ℤ negsuc 9223372036854774) ⊎ (pos 9223372036854775 <ℤ z) → ErrorInMicroseconds whole c
outside whole c z p is out = subst (ErrorInMicroseconds whole) (sym is) (date_range z p.prefix p.rest p.joined p.first.encoded (record { fits = p.first.fits; outside = out }))

micros_errors : (whole : List ℕ) (c : Cause) → AllBytes whole → InThen (ErrorInBytes 8) Signed ErrorInRange whole c → ErrorInMicroseconds whole c
micros_errors whole c small p = elim p [
  | inl h ↦ date_ended whole c h
  | inr q ↦ elim q.1.second [
    | inl r ↦ outside whole c q.0 q.1 r.1 (inl (below q.0 (negsuc 9223372036854774) r.0))
    | inr r ↦ elim r.1 [
      | inl s ↦ outside whole c q.0 q.1 s.1 (inr (below (pos 9223372036854775) q.0 s.0))
      | inr s ↦ absurd s.1
    ]
  ]
]

range_agrees : (z : ℤ) → Agrees UnexpectedEnd (micros_of z) (Ranged z) (ErrorInRange z)
range_agrees z =
    chosen (lt_z z (negsuc 9223372036854774)) (nothing_stands DateRange (λ e. cc))
    (chosen (lt_z (pos 9223372036854775) z) (nothing_stands DateRange (λ e. cc)) (nothing_read UnexpectedEnd (z *ℤ pos 1000)))

same_read : {F Y : Type 0} (r : Result (Y × List ℕ) F) → (r >>= λ x. Ok (x.0, x.1)) ≡ r
same_read (Ok x) = refl
same_read (Err e) = refl

pub date_agrees : (v : Version) → Agrees UnexpectedEnd (date_at v) (Date v) (λ whole c. ErrorInDate whole v c)
unfolding date_at
date_agrees V1 = agrees_too (λ whole. refl) micros_to micros_from micros_errors (in_turn {b = micros_of} i64_agrees range_agrees)
date_agrees V2 = agrees_too (λ whole. same_read _) (λ whole z small h. h) (λ whole z h. h) (λ whole c small h. h) i64_agrees
date_agrees V3 = agrees_too (λ whole. same_read _) (λ whole z small h. h) (λ whole z h. h) (λ whole c small h. h) i64_agrees

-- ---- texts with their tokens

-- the same first part, and another one after it
behind : {A B C : List ℕ → Type 0} {whole : List ℕ} (p : Then A B whole) → C p.rest → Then A C whole
behind p s = record { prefix = p.prefix; rest = p.rest; joined = p.joined; first = p.first; second = s }

abbrev TokenParts : List ℕ → Token → Type 0
TokenParts =
    InTurn VNum (λ from. InTurn VNum (λ to. InTurn VNum (λ position. InTurn Text (λ content whole t.
    (positions : ℕ) × VNum whole positions × (t ≡ token_with from to position content positions)))))

token_to : (whole : List ℕ) (t : Token) → AllBytes whole → TokenParts whole t → TokenEncoding whole t
token_to whole t small p =
    let from = p.1 in
    let to = from.second.1 in
    let position = to.second.1 in
    let content = position.second.1 in
    let positions = content.second in
    subst (TokenEncoding whole) (sym positions.2) (behind from (behind to (behind position (behind content positions.1))))

token_from : (whole : List ℕ) (t : Token) → TokenEncoding whole t → TokenParts whole t
token_from whole t from =
    let to = from.second in
    let position = to.second in
    let content = position.second in
    (t.offset_from, behind from (t.offset_to, behind to (t.position, behind position (t.text, behind content (t.position_length, content.second, refl)))))

token_agrees : Agrees UnexpectedEnd token_at TokenEncoding ErrorInToken
unfolding token_at
token_agrees = agrees_too (λ whole. refl) token_to token_from (λ whole c small h. h)
    (in_turn vint_agrees (λ from. in_turn vint_agrees (λ to. in_turn vint_agrees (λ position. in_turn text_agrees (λ content. made (token_with from to position content) vint_agrees)))))

abbrev CountedTokens : List ℕ → List Token → Type 0
CountedTokens = InTurn VNum (λ n whole ts. (length ts ≡ n) × Each TokenEncoding whole ts)

counted_agree : Agrees UnexpectedEnd counted_tokens_at CountedTokens (InThen ErrorInNumber VNum (InEach ErrorInToken TokenEncoding))
unfolding counted_tokens_at
counted_agree = in_turn {b = tokens_at} vint_agrees (each_agrees token_agrees)

abbrev TokenizedParts : List ℕ → List ℕ × List Token → Type 0
TokenizedParts = InTurn Text (λ content b x. (ts : List Token) × CountedTokens b ts × (x ≡ (content, ts)))

tokenized_to : (whole : List ℕ) (pair : List ℕ × List Token) → AllBytes whole → TokenizedParts whole pair → TokenizedPair whole pair
tokenized_to whole pair small p =
    let q = p.1.second in
    let counted = q.1.1 in
    subst (TokenizedPair whole) (sym q.2) (behind p.1 (record { prefix = counted.prefix; rest = counted.rest; joined = counted.joined; first = subst (VNum counted.prefix) (sym counted.second.0) counted.first; second = counted.second.1 }))

tokenized_from : (whole : List ℕ) (pair : List ℕ × List Token) → TokenizedPair whole pair → TokenizedParts whole pair
tokenized_from whole pair h = (pair.0, behind h (pair.1, (length pair.1, behind h.second (refl, h.second.second)), refl))

pub tokenized_agrees : Agrees UnexpectedEnd tokenized_at TokenizedPair ErrorInTokenized
unfolding tokenized_at
tokenized_agrees = agrees_too (λ whole. refl) tokenized_to tokenized_from (λ whole c small h. h)
    (in_turn {b = λ content whole. counted_tokens_at whole >>= make (λ ts. (content, ts))} text_agrees (λ content. made (λ ts. (content, ts)) counted_agree))

-- ---- leaves

pub number_agrees : (v : Version) (t : LeafType) → Agrees UnexpectedEnd (number_at v t) (Scaled (scale v t)) (λ whole c. ErrorInScaled (scale v t) whole c)
number_agrees v leaves.Date = date_agrees v
number_agrees v _ = i64_agrees

held_agrees : (v : Version) (t : LeafType) (f : Form) → Agrees UnexpectedEnd (content_at v t f) (HoldsByForm v t f) (ErrorInHeld v t f)
held_agrees v t forms.Nothing = nothing_read UnexpectedEnd (leaf (leaf_holding t no_content))
held_agrees v t forms.Truth = made (λ x. leaf (leaf_holding t (truth_content x))) truth_agrees
held_agrees v t forms.Unsigned = made (λ x. leaf (leaf_holding t (unsigned_content x))) u64_agrees
held_agrees v t forms.Signed = made (λ x. leaf (leaf_holding t (signed_content x))) (number_agrees v t)
held_agrees v t forms.Wide = made (λ x. leaf (leaf_holding t (wide_content x))) u128_agrees
held_agrees v t forms.Text = made (λ x. leaf (leaf_holding t (text_content x))) text_agrees
held_agrees v t forms.Bytes = made (λ x. leaf (leaf_holding t (bytes_content x))) sized_agrees
held_agrees v t forms.Tokens = made (λ x. leaf (leaf_holding t (tokens_content x.0 x.1))) tokenized_agrees

type_agrees : (v : Version) (o : Option LeafType) → Agrees UnexpectedEnd (leaf_of_type v o) (LeafOfType v o) (ErrorInLeafOfType v o)
type_agrees v (Some t) = held_agrees v t (form t)
type_agrees v None = nothing_stands LegacyJson (λ e. cc)

pub leaf_agrees : (v : Version) (kind : ValueType) → Agrees UnexpectedEnd (leaf_at v kind) (LeafOf v kind) (ErrorInLeafOf v kind)
unfolding leaf_at
leaf_agrees v kind = type_agrees v (leaf_type kind)
