-- Heads of values and of documents are determined by the bytes.
use Rattle.std.proofs.Common.{◌≡◌, ◌≢◌, ◌≤◌, ℕ, List, ◌∷◌, ◌++◌, refl, sym, ap, subst, ◌∙◌, arith}
use Rattle.std.proofs.lemmas.List.{append_cancel_left}
use Rattle.tv_base.specs.declared.cause.Cause.{Cause}
use Rattle.tv_base.specs.Number.{VNum}
use Rattle.tv_base.specs.Parts.{Begins, OneReading}
use Rattle.tv_base.proofs.Excluding.{excludes_number}
use Rattle.tv_base.proofs.Numbers.{one_number}
use Rattle.tv_base.proofs.Single.{single_number}
use Rattle.tv_format.specs.InputError.{corrupted}
use Rattle.tv_format.specs.Version.{V2}
use Rattle.tv_format.proofs.SingleTrees.{value_single}
use Rattle.tv_reader.specs.Legacy.{Legacy, ErrorInLegacy}
use Rattle.tv_reader.specs.ValueType.{type_prefix, IsCoded, ErrorInCode, no_code, unknown_type, float_type, no_extension_code, unknown_extension}
use Rattle.tv_reader.specs.declared.error.DeserializeError.{DeserializeError}
use Rattle.tv_reader.specs.declared.error.DeserializeError.TheVariants as errors
use Rattle.tv_reader.specs.declared.value_type.ValueType.{ValueType}
use Rattle.tv_reader.specs.declared.value_type.ValueType.TheVariants as types
use Rattle.tv_reader.proofs.AgreeKinds.{same_coded}
use Rattle.tv_reader.proofs.BehindKinds.{code_value}
use Rattle.tv_reader.proofs.UniqueLegacy.{one_legacy, legacy_excludes, single_legacy}
use Rattle.tv_typed.specs.Determined.{AreDetermined}
use Rattle.tv_typed.specs.Documents.{NumberRefused, in_pair_count}
use Rattle.tv_typed.specs.Values.{CodeRefused, in_code}

-- one value at the front of bytes, and what is left
one_front : {A : Type 0} (R : List ℕ → A → Type 0) → OneReading R → (bytes rest other : List ℕ) (x y : A) → Begins (λ part. R part x) bytes rest → Begins (λ part. R part y) bytes other → (x ≡ y) × (rest ≡ other)
one_front R one bytes rest other x y p q =
    let joined = sym p.joined ∙ q.joined in
    let same = one p.prefix q.prefix rest other x y p.encoded q.encoded joined in
    (same.1, append_cancel_left q.prefix rest other (ap (λ (l : List ℕ). l ++ rest) (sym same.0) ∙ joined))

-- ---- the number of pairs

number_not_both : (bytes rest : List ℕ) (n : ℕ) (e : DeserializeError) → Begins (λ part. VNum part n) bytes rest → NumberRefused bytes e → ⊥
number_not_both bytes rest n _ p (in_pair_count {cause} f) = (excludes_number n).excludes bytes p.prefix rest cause f p.encoded p.joined

number_error : (bytes : List ℕ) (e f : DeserializeError) → NumberRefused bytes e → NumberRefused bytes f → e ≡ f
number_error bytes _ _ (in_pair_count {cause = c} f) (in_pair_count {cause = d} h) = ap errors.CorruptedValue (single_number.single bytes c d f h)

pub number_determined : AreDetermined VNum NumberRefused
number_determined = record { one_value = one_front VNum one_number; not_both = number_not_both; one_error = number_error }

-- ---- codes

one_coded : OneReading IsCoded
one_coded a b x y m n p q e =
    let s = same_coded m n x y (ap (λ (l : List ℕ). l ++ x) (sym p) ∙ e ∙ ap (λ (l : List ℕ). l ++ y) q) in
    (p ∙ ap type_prefix s.0 ∙ sym q, s.0)

-- the first byte of a code that is known, and what stands after it
record Known (whole rest : List ℕ) : Type 0 where
  byte : ℕ
  more : List ℕ
  joined : whole ≡ byte ∷ more
  small : byte ≤ 13
  no_float : byte ≢ 6
  extended : byte ≡ 7 → more ≡ 0 ∷ rest

known : (kind : ValueType) (rest : List ℕ) → Known (type_prefix kind ++ rest) rest
known types.String rest = record { byte = 0; more = rest; joined = refl; small = omega arith; no_float = λ s. omega (arith, s); extended = λ s. absurd (omega (arith, s)) }
known types.U64 rest = record { byte = 1; more = rest; joined = refl; small = omega arith; no_float = λ s. omega (arith, s); extended = λ s. absurd (omega (arith, s)) }
known types.I64 rest = record { byte = 2; more = rest; joined = refl; small = omega arith; no_float = λ s. omega (arith, s); extended = λ s. absurd (omega (arith, s)) }
known types.Facet rest = record { byte = 3; more = rest; joined = refl; small = omega arith; no_float = λ s. omega (arith, s); extended = λ s. absurd (omega (arith, s)) }
known types.Bytes rest = record { byte = 4; more = rest; joined = refl; small = omega arith; no_float = λ s. omega (arith, s); extended = λ s. absurd (omega (arith, s)) }
known types.DateTime rest = record { byte = 5; more = rest; joined = refl; small = omega arith; no_float = λ s. omega (arith, s); extended = λ s. absurd (omega (arith, s)) }
known types.PreTokStr rest = record { byte = 7; more = 0 ∷ rest; joined = refl; small = omega arith; no_float = λ s. omega (arith, s); extended = λ s. refl }
known types.JSONObject rest = record { byte = 8; more = rest; joined = refl; small = omega arith; no_float = λ s. omega (arith, s); extended = λ s. absurd (omega (arith, s)) }
known types.Bool rest = record { byte = 9; more = rest; joined = refl; small = omega arith; no_float = λ s. omega (arith, s); extended = λ s. absurd (omega (arith, s)) }
known types.IpAddr rest = record { byte = 10; more = rest; joined = refl; small = omega arith; no_float = λ s. omega (arith, s); extended = λ s. absurd (omega (arith, s)) }
known types.Null rest = record { byte = 11; more = rest; joined = refl; small = omega arith; no_float = λ s. omega (arith, s); extended = λ s. absurd (omega (arith, s)) }
known types.Array rest = record { byte = 12; more = rest; joined = refl; small = omega arith; no_float = λ s. omega (arith, s); extended = λ s. absurd (omega (arith, s)) }
known types.Object rest = record { byte = 13; more = rest; joined = refl; small = omega arith; no_float = λ s. omega (arith, s); extended = λ s. absurd (omega (arith, s)) }

no_known : (whole rest : List ℕ) (c : Cause) → ErrorInCode whole c → Known whole rest → ⊥
no_known whole rest c no_code k = let e = k.joined in absurd cc
no_known _ rest c (unknown_type {b = b} large) k = let e : b ≡ k.byte = (let joined = k.joined in cc) in omega (arith, e, large, k.small)
no_known _ rest c float_type k = k.no_float (sym (let joined = k.joined in cc))
no_known _ rest c no_extension_code k =
    let joined = k.joined in
    let first : k.byte ≡ 7 = cc in
    let then = k.extended first in
    absurd cc
no_known _ rest c (unknown_extension {b = b} other) k =
    let joined = k.joined in
    let first : k.byte ≡ 7 = cc in
    let then = k.extended first in
    other cc

code_not_both : (bytes rest : List ℕ) (kind : ValueType) (e : DeserializeError) → Begins (λ part. IsCoded part kind) bytes rest → CodeRefused bytes e → ⊥
code_not_both bytes rest kind _ p (in_code {cause} f) =
    no_known bytes rest cause f (subst (λ w. Known w rest) (sym (p.joined ∙ ap (λ (l : List ℕ). l ++ rest) p.encoded)) (known kind rest))

code_error : (bytes : List ℕ) (e f : DeserializeError) → CodeRefused bytes e → CodeRefused bytes f → e ≡ f
code_error bytes _ _ (in_code {cause = c} f) (in_code {cause = d} h) =
    let same : corrupted c ≡ corrupted d = value_single Legacy ErrorInLegacy V2 one_legacy legacy_excludes single_legacy (code_value V2 bytes c f) refl (code_value V2 bytes d h) in
    let causes : c ≡ d = cc in
    ap errors.CorruptedValue causes

pub code_determined : AreDetermined IsCoded CodeRefused
code_determined = record { one_value = one_front IsCoded one_coded; not_both = code_not_both; one_error = code_error }
