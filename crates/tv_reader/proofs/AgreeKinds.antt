-- Reading the type of a value agrees with its codes.
use Rattle.std.proofs.Common.{◌≡◌, ◌≢◌, ◌<◌, if◌then◌else◌, ℕ, zero, suc, Bool, true, false, eqb, List, [], ◌∷◌, ◌++◌, Result, Ok, Err, refl, sym, ap, subst, ◌∙◌, arith, inl, inr}
use Rattle.std.proofs.lemmas.Bool.{cases_lt}
use Rattle.std.proofs.lemmas.Bool.Decides.{eqb_tells}
use Rattle.tv_base.specs.declared.cause.Cause.{Cause}
use Rattle.tv_base.specs.declared.cause.Cause.TheVariants.{UnexpectedEnd, UnknownTypeCode, FloatCode, UnknownExtCode}
use Rattle.tv_base.specs.Reading.{u8_at}
use Rattle.tv_base.proofs.Agrees.{Agrees, Shown, ok_is, err_is, no_ok, same_start}
use Rattle.tv_base.proofs.AgreeWidths.{ended_shown}
use Rattle.tv_format.specs.Leaves.{store_code, last_code}
use Rattle.tv_format.specs.LeavesLaws.{code_of_leaf}
use Rattle.tv_format.specs.declared.leaf_type.LeafType.{LeafType}
use Rattle.tv_format.specs.declared.leaf_type.LeafType.TheVariants as leaves
use Rattle.tv_reader.specs.declared.value_type.ValueType.{ValueType}
use Rattle.tv_reader.specs.declared.value_type.ValueType.TheVariants as types
use Rattle.tv_reader.specs.Kinds.{extension_of, extension_at, known_kind, kind_of, kind_at}
use Rattle.tv_reader.specs.ValueType.{of_leaf, value_type_code, value_type_with, type_prefix, IsCoded, ErrorInCode, no_code, unknown_type, float_type, no_extension_code, unknown_extension}
use Rattle.tv_reader.proofs.Codes.{differs, above, no_type}

passes : {A : Type 0} (test : Bool) (x y : A) → test ≡ false → (if test then x else y) ≡ y
passes true x y e = absurd (let f : true ≡ false = e in cc)
passes false x y e = refl

-- a code above the largest
far : (code : ℕ) (bytes : List ℕ) → last_code < code → kind_of code bytes ≡ Err (UnknownTypeCode code, bytes)
far code bytes h =
    let known = known_kind code bytes (value_type_with code) in
    let no_float : Result (ValueType × List ℕ) (Cause × List ℕ) = if eqb code 6 then Err (FloatCode, bytes) else known in
    passes (eqb code 7) (extension_at bytes) no_float (above code 7 (omega (arith, h))) ∙ passes (eqb code 6) (Err (FloatCode, bytes)) known (above code 6 (omega (arith, h))) ∙ ap (known_kind code bytes) (no_type code h)

extension_far : (code : ℕ) (bytes : List ℕ) → code ≢ 0 → extension_of code bytes ≡ Err (UnknownExtCode code, bytes)
extension_far code bytes h = rw (differs code 0 h) refl

pub known_read : (k : ValueType) (rest : List ℕ) → kind_at (type_prefix k ++ rest) ≡ Ok (k, rest)
unfolding kind_at extension_at u8_at
known_read types.PreTokStr rest = refl
known_read _ rest = refl

-- a code says the type, and where what is after it begins
pub same_coded : (k l : ValueType) (a b : List ℕ) → type_prefix k ++ a ≡ type_prefix l ++ b → (k ≡ l) × (a ≡ b)
same_coded k l a b e =
    let q = ok_is (Cause × List ℕ) (k, a) (l, b) (sym (known_read k a) ∙ ap kind_at e ∙ known_read l b) in
    (ap (λ z. z.0) q, ap (λ z. z.1) q)

nothing_read : kind_at [] ≡ Err (UnexpectedEnd, [])
unfolding kind_at u8_at
nothing_read = refl

one_early : (code : ℕ) (start : List ℕ) (byte : ℕ) → code ∷ [] ≡ start ++ byte ∷ [] → kind_at start ≡ Err (UnexpectedEnd, [])
one_early code start byte last = ap kind_at (same_start start [] byte code (sym last)) ∙ nothing_read

extension_early : (code : ℕ) (start : List ℕ) (byte : ℕ) → 7 ∷ code ∷ [] ≡ start ++ byte ∷ [] → kind_at start ≡ Err (UnexpectedEnd, [])
unfolding kind_at extension_at u8_at
extension_early code start byte last = ap kind_at (same_start start (7 ∷ []) byte code (sym last))

-- without its last byte a code is at its end
coded_early : (k : ValueType) (start : List ℕ) (byte : ℕ) → type_prefix k ≡ start ++ byte ∷ [] → kind_at start ≡ Err (UnexpectedEnd, [])
coded_early types.PreTokStr start byte last = extension_early 0 start byte last
coded_early kind start byte last = one_early (value_type_code kind) start byte last

-- bytes begin with the code of a type, or are malformed there
data Coding (bytes : List ℕ) : Type 0 where
  known : (k : ValueType) (rest : List ℕ) → bytes ≡ type_prefix k ++ rest → Coding bytes
  malformed : (c : Cause) (rest : List ℕ) → kind_at bytes ≡ Err (c, rest) → ErrorInCode bytes c → Shown UnexpectedEnd kind_at bytes rest c → Coding bytes

-- a malformed part after one byte, and after two
malformed_byte : (code : ℕ) (rest : List ℕ) (c : Cause) → c ≢ UnexpectedEnd → kind_at (code ∷ rest) ≡ Err (c, rest) → kind_at (code ∷ []) ≡ Err (c, []) → ErrorInCode (code ∷ rest) c → Coding (code ∷ rest)
malformed_byte code rest c other read alone error = malformed c rest read error (record {
  prefix = code ∷ [];
  joined = refl;
  alone = alone;
  all = λ e. absurd (other e);
  early = λ _ start byte last. one_early code start byte last;
})

malformed_extension : (code : ℕ) (rest : List ℕ) (c : Cause) → c ≢ UnexpectedEnd → kind_at (7 ∷ code ∷ rest) ≡ Err (c, rest) → kind_at (7 ∷ code ∷ []) ≡ Err (c, []) → ErrorInCode (7 ∷ code ∷ rest) c → Coding (7 ∷ code ∷ rest)
malformed_extension code rest c other read alone error = malformed c rest read error (record {
  prefix = 7 ∷ code ∷ [];
  joined = refl;
  alone = alone;
  all = λ e. absurd (other e);
  early = λ _ start byte last. extension_early code start byte last;
})

extension_coding : (rest : List ℕ) → Coding (7 ∷ rest)
unfolding kind_at extension_at u8_at
extension_coding [] = malformed UnexpectedEnd [] refl no_extension_code (ended_shown kind_at (7 ∷ []) [] UnexpectedEnd refl refl)
extension_coding (zero ∷ rest) = known types.PreTokStr rest refl
extension_coding (suc n ∷ rest) =
    let other : suc n ≢ 0 = λ p. omega (arith, p) in
    malformed_extension (suc n) rest (UnknownExtCode (suc n)) (λ e. cc) (extension_far (suc n) rest other) (extension_far (suc n) [] other) (unknown_extension other)

far_coding : (code : ℕ) (rest : List ℕ) → last_code < code → Coding (code ∷ rest)
unfolding kind_at u8_at
far_coding code rest h = malformed_byte code rest (UnknownTypeCode code) (λ e. cc) (far code rest h) (far code [] h) (unknown_type h)

float_coding : (rest : List ℕ) → Coding (6 ∷ rest)
unfolding kind_at u8_at
float_coding rest = malformed_byte 6 rest FloatCode (λ e. cc) refl refl float_type

-- but for that of a text with its tokens, all that stands before a leaf is its code
before_leaf : (t : LeafType) → store_code t ≢ 7 → type_prefix (of_leaf t) ≡ store_code t ∷ []
before_leaf leaves.PreTokStr other = absurd (other refl)
before_leaf _ other = refl

leaf_coding : (code : ℕ) (rest : List ℕ) → code ≢ 7 → (found : (t : LeafType) × (store_code t ≡ code)) → Coding (code ∷ rest)
leaf_coding code rest other found =
    known (of_leaf found.0) rest (ap (λ n. n ∷ rest) (sym found.1) ∙ ap (λ (l : List ℕ). l ++ rest) (sym (before_leaf found.0 (λ e. other (sym found.1 ∙ e)))))

leaf_or_far : (code : ℕ) (rest : List ℕ) → code ≢ 6 → code ≢ 7 → code ≢ 8 → code ≢ 12 → code ≢ 13 → Coding (code ∷ rest)
leaf_or_far code rest not_float not_extended not_legacy not_array not_object = elim (cases_lt code (suc last_code)) as (λ _. Coding (code ∷ rest)) [
  | inl less ↦ leaf_coding code rest not_extended (code_of_leaf code (record { known = omega (arith, less); no_float = not_float; no_legacy = not_legacy; no_array = not_array; no_object = not_object }))
  | inr more ↦ far_coding code rest (omega (arith, more))
]

behind_extension : (code : ℕ) (rest : List ℕ) → code ≢ 6 → code ≢ 7 → Coding (code ∷ rest)
behind_extension code rest not_float not_extended =
    let Goal = λ (n : ℕ). Coding (n ∷ rest) in
    elim (eqb_tells code 8) as (λ _. Goal code) [
      | inl p ↦ subst Goal (sym p.1) (known types.JSONObject rest refl)
      | inr p ↦ elim (eqb_tells code 12) as (λ _. Goal code) [
        | inl q ↦ subst Goal (sym q.1) (known types.Array rest refl)
        | inr q ↦ elim (eqb_tells code 13) as (λ _. Goal code) [ inl r ↦ subst Goal (sym r.1) (known types.Object rest refl) | inr r ↦ leaf_or_far code rest not_float not_extended p.1 q.1 r.1 ]
      ]
    ]

code_coding : (code : ℕ) (rest : List ℕ) → Coding (code ∷ rest)
code_coding code rest =
    let Goal = λ (n : ℕ). Coding (n ∷ rest) in
    elim (eqb_tells code 6) as (λ _. Goal code) [
      | inl p ↦ subst Goal (sym p.1) (float_coding rest)
      | inr p ↦ elim (eqb_tells code 7) as (λ _. Goal code) [ inl q ↦ subst Goal (sym q.1) (extension_coding rest) | inr q ↦ behind_extension code rest p.1 q.1 ]
    ]

coding : (bytes : List ℕ) → Coding bytes
coding [] = malformed UnexpectedEnd [] nothing_read no_code (ended_shown kind_at [] [] UnexpectedEnd nothing_read nothing_read)
coding (code ∷ rest) = code_coding code rest

known_at : (bytes : List ℕ) (k : ValueType) (rest : List ℕ) → bytes ≡ type_prefix k ++ rest → kind_at bytes ≡ Ok (k, rest)
known_at bytes k rest joined = ap kind_at joined ∙ known_read k rest

sound : (bytes : List ℕ) (x : ValueType × List ℕ) → Coding bytes → kind_at bytes ≡ Ok x → bytes ≡ type_prefix x.0 ++ x.1
sound bytes x (known k rest joined) e = joined ∙ ap (λ z. type_prefix z.0 ++ z.1) (ok_is (Cause × List ℕ) (k, rest) x (sym (known_at bytes k rest joined) ∙ e))
sound bytes x (malformed c rest read error shown) e = absurd (no_ok (c, rest) x (sym read ∙ e))

refused : (bytes : List ℕ) (c : Cause) (rest : List ℕ) → Coding bytes → kind_at bytes ≡ Err (c, rest) → ErrorInCode bytes c × Shown UnexpectedEnd kind_at bytes rest c
refused bytes c rest (known k after joined) e = absurd (no_ok (c, rest) (k, after) (sym e ∙ known_at bytes k after joined))
refused bytes c rest (malformed d after read error shown) e =
    let q = err_is (ValueType × List ℕ) (d, after) (c, rest) (sym read ∙ e) in
    subst (λ (z : Cause × List ℕ). ErrorInCode bytes z.0 × Shown UnexpectedEnd kind_at bytes z.1 z.0) q (error, shown)

pub kind_agrees : Agrees UnexpectedEnd kind_at IsCoded ErrorInCode
kind_agrees = record {
  sound = λ bytes x small e. (type_prefix x.0, refl, sound bytes x (coding bytes) e);
  complete = λ prefix k rest p. known_at (prefix ++ rest) k rest (ap (λ (l : List ℕ). l ++ rest) p);
  refused = λ bytes c rest small e. (refused bytes c rest (coding bytes) e).0;
  before = λ prefix k p start byte last. coded_early k start byte (sym p ∙ last);
  shown = λ bytes c rest small e. (refused bytes c rest (coding bytes) e).1;
}
