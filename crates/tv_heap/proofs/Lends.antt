-- What is read in place is what stands there.
use Rattle.std.proofs.Common.{IsUtf8, ◌-◌, inl, inr, ◌≡◌, ℕ, ◌+◌, ◌<◌, ◌≤◌, List, [], ◌++◌, length, get_or, take, drop, take-append-drop, to_z, of_z, ℤ, ◌^◌, ◌*◌, ◌/◌, ◌%◌, ◌∷◌, sym, ◌∙◌, ap, subst, arith}
use Rattle.std.specs.Int.{w64, w128, from_le_bytes, cast_signed}
use Rattle.std.proofs.lemmas.Bool.{cases_lt}
use Rattle.std.proofs.lemmas.Int.{to_z-of_z}
use Rattle.std.proofs.lemmas.Str.{IsUtf8-had}
use Rattle.std.proofs.Math.Logic.{∥∥₁_map}
use Rattle.std.proofs.lemmas.List.{length-append, take_all}
use Rattle.std.proofs.Math.Seq.{drop-append_seam, take-append_seam}
use Rattle.tv_base.specs.Number.{vnum, Fixed, Signed}
use Rattle.tv_base.proofs.Numbers.{length-fixed, vnum-small, vnum-large}
use Rattle.tv_base.proofs.Widths.{from_8, from_16}
use Rattle.tv_format.proofs.Leaves.{agree_tokenized}
use Rattle.tv_format.proofs.ShortEncodings.{tokenized_of}
use Rattle.tv_value.specs.InPlace.{NoTokenized}
use Rattle.tv_format.specs.Encoding.{Tokenized}
use Rattle.tv_format.specs.Tree.{Token, tokenized}
use Rattle.tv_heap.specs.Lent.{HasText}
use Rattle.tv_heap.specs.Reads.{Stands, ShortSized, ShortText, ShortTokenized}

-- after the address
pub stands_behind : (heap : List ℕ) (at : ℕ) (P : List ℕ → Type 0) (p : Stands heap at P) → drop at heap ≡ p.whole ++ p.behind
stands_behind heap at P p = (λ i. drop (sym p.place i) (p.joined i)) ∙ drop-append_seam p.before (p.whole ++ p.behind)

pub text_sized : (heap : List ℕ) (at : ℕ) (s : List ℕ) → Stands heap at (λ w. ShortText s w) → Stands heap at (λ w. ShortSized s w)
text_sized heap at s p = record { before = p.before; whole = p.whole; behind = p.behind; joined = p.joined; place = p.place; stands = p.stands.sized }

fixed_prefix : (k : ℕ) (heap behind : List ℕ) (at n : ℕ) (p : Stands heap at (λ w. Fixed k w n)) → behind ≡ drop at heap → take k behind ≡ p.whole
fixed_prefix k heap behind at n p e =
    let l : k ≡ length p.whole = sym (length-fixed p.stands) in
    (λ i. take (l i) ((e ∙ stands_behind heap at _ p) i)) ∙ take-append_seam p.whole p.behind

fixed_short : {A : Type 0} (k : ℕ) (heap behind : List ℕ) (at n : ℕ) → Stands heap at (λ w. Fixed k w n) → behind ≡ drop at heap → length behind < k → A
fixed_short k heap behind at n p e l =
    let whole = ap length (e ∙ stands_behind heap at _ p) in
    let all = length-fixed p.stands in
    absurd (omega (arith, length-append p.whole p.behind))

pub eight_is : (heap behind prefix : List ℕ) (at n : ℕ) → Stands heap at (λ w. Fixed 8 w n) → behind ≡ drop at heap → prefix ≡ take 8 behind → from_le_bytes w64 prefix ≡ n
eight_is heap behind prefix at n p e f = ap (from_le_bytes w64) (f ∙ fixed_prefix 8 heap behind at n p e) ∙ from_8 p.whole n p.stands

pub eight_short : {A : Type 0} (heap behind : List ℕ) (at n : ℕ) → Stands heap at (λ w. Fixed 8 w n) → behind ≡ drop at heap → length behind < 8 → A
eight_short heap behind at n p e l = fixed_short 8 heap behind at n p e l

pub signed_is : (heap : List ℕ) (at x : ℕ) (y z : ℤ) → Stands heap at (λ w. Signed w z) → ((n : ℕ) → Stands heap at (λ w. Fixed 8 w n) → x ≡ n) → y ≡ cast_signed w64 x → to_z w64 (of_z w64 y) ≡ z
signed_is heap at x y z p is f =
    let number = is _ (record { before = p.before; whole = p.whole; behind = p.behind; joined = p.joined; place = p.place; stands = p.stands.encoded }) in
    let back = to_z-of_z w64 z p.stands.fits in
    ap (λ v. to_z w64 (of_z w64 v)) (f ∙ ap (cast_signed w64) number ∙ back) ∙ back

pub wide_is : (heap behind prefix : List ℕ) (at n : ℕ) → Stands heap at (λ w. Fixed 16 w n) → behind ≡ drop at heap → prefix ≡ take 16 behind → from_le_bytes w128 prefix ≡ n
wide_is heap behind prefix at n p e f = ap (from_le_bytes w128) (f ∙ fixed_prefix 16 heap behind at n p e) ∙ from_16 p.whole n p.stands

pub wide_short : {A : Type 0} (heap behind : List ℕ) (at n : ℕ) → Stands heap at (λ w. Fixed 16 w n) → behind ≡ drop at heap → length behind < 16 → A
wide_short heap behind at n p e l = fixed_short 16 heap behind at n p e l

-- ---- texts with their tokens

pub tokenized_stands : (heap : List ℕ) (at : ℕ) (s : List ℕ) (ss : List Token) (p : Stands heap at (λ w. ShortTokenized s ss w)) → Tokenized p.whole s ss
tokenized_stands heap at s ss p = subst (λ w. Tokenized w s ss) (sym p.stands.is) (tokenized_of s ss p.stands.content_fits p.stands.tokens_fit)

pub tokenized_is : (heap behind : List ℕ) (at n : ℕ) (s t : List ℕ) (ss ts : List Token) → Stands heap at (λ w. ShortTokenized s ss w) → behind ≡ drop at heap → Tokenized (take n behind) t ts
    → tokenized t ts ≡ tokenized s ss
tokenized_is heap behind at n s t ss ts p e found =
    let joined : take n behind ++ drop n behind ≡ p.whole ++ p.behind = take-append-drop n behind ∙ e ∙ stands_behind heap at _ p in
    ((agree_tokenized t s ts ss).agree (take n behind) p.whole (drop n behind) p.behind found (tokenized_stands heap at s ss p) joined).1

pub tokenized_none : {A : Type 0} (heap behind : List ℕ) (at : ℕ) (s : List ℕ) (ss : List Token) → Stands heap at (λ w. ShortTokenized s ss w) → behind ≡ drop at heap → NoTokenized behind → A
tokenized_none heap behind at s ss p e none = absurd ((none s ss).none p.whole p.behind (e ∙ stands_behind heap at _ p) (tokenized_stands heap at s ss p))

-- ---- numbers of one and of two bytes

short_prefix : (n : ℕ) (rest : List ℕ) → 128 ≤ n → n < 2 ^ 64 → vnum n ++ rest ≡ n % 128 ∷ (vnum (n / 128) ++ rest)
short_prefix n rest p h = ap (λ z. z ++ rest) (vnum-large n p h)

first_same : (x y : ℕ) (xs ys : List ℕ) → x ∷ xs ≡ y ∷ ys → x ≡ y
first_same x y xs ys e = ap (λ z. get_or z 0 0) e

rest_same : (x y : ℕ) (xs ys : List ℕ) → x ∷ xs ≡ y ∷ ys → xs ≡ ys
rest_same x y xs ys e = ap (drop 1) e

-- the first byte is the last of the number
one_byte_at : (b : ℕ) (bytes : List ℕ) (n : ℕ) (rest : List ℕ) → 128 ≤ b → n < 2 ^ 64 → b ∷ bytes ≡ vnum n ++ rest → (b - 128 ≡ n) × (bytes ≡ rest)
one_byte_at b bytes n rest high h e =
    elim (cases_lt n 128) [
      | inl small ↦ let f = e ∙ ap (λ z. z ++ rest) (vnum-small n small) in (omega (arith, first_same _ _ _ _ f), rest_same _ _ _ _ f)
      | inr large ↦ absurd (omega (arith, first_same _ _ _ _ (e ∙ short_prefix n rest large h)))
    ]

-- the second is
two_bytes_at : (a b : ℕ) (bytes : List ℕ) (n : ℕ) (rest : List ℕ) → a < 128 → 128 ≤ b → n < 2 ^ 64 → a ∷ b ∷ bytes ≡ vnum n ++ rest → (a + 128 * (b - 128) ≡ n) × (bytes ≡ rest)
two_bytes_at a b bytes n rest low high h e =
    elim (cases_lt n 128) [
      | inl small ↦ absurd (omega (arith, first_same _ _ _ _ (e ∙ ap (λ z. z ++ rest) (vnum-small n small))))
      | inr large ↦
          let f = e ∙ short_prefix n rest large h in
          let g = one_byte_at b bytes (n / 128) rest high (omega arith) (rest_same _ _ _ _ f) in
          (omega (arith, g.0, first_same _ _ _ _ f), g.1)
    ]

all_behind : (bytes rest : List ℕ) (k : ℕ) → k ≡ length bytes → bytes ≡ rest → take k bytes ≡ rest
all_behind bytes rest k e same = take_all k bytes (omega arith) ∙ same

pub one_byte_prefix : (bytes : List ℕ) (n : ℕ) (rest : List ℕ) → 128 ≤ get_or bytes 0 0 → n < 2 ^ 64 → bytes ≡ vnum n ++ rest
    → (get_or bytes 0 0 - 128 ≡ n) × (take (length bytes - 1) (drop 1 bytes) ≡ rest)
one_byte_prefix [] n rest high h e = absurd (omega arith)
one_byte_prefix (b ∷ bytes) n rest high h e = let g = one_byte_at b bytes n rest high h e in (g.0, all_behind bytes rest _ (omega arith) g.1)

pub two_bytes_prefix : (bytes : List ℕ) (n : ℕ) (rest : List ℕ) → get_or bytes 0 0 < 128 → 128 ≤ get_or bytes 1 0 → n < 2 ^ 64 → bytes ≡ vnum n ++ rest
    → (get_or bytes 0 0 + 128 * (get_or bytes 1 0 - 128) ≡ n) × (take (length bytes - 2) (drop 2 bytes) ≡ rest)
two_bytes_prefix [] n rest low high h e = absurd (omega arith)
two_bytes_prefix (a ∷ []) n rest low high h e = absurd (omega arith)
two_bytes_prefix (a ∷ b ∷ bytes) n rest low high h e = let g = two_bytes_at a b bytes n rest low high h e in (g.0, all_behind bytes rest _ (omega arith) g.1)

-- ---- texts

pub text_utf8 : (heap x : List ℕ) (at : ℕ) → ((s : List ℕ) → Stands heap at (λ w. ShortSized s w) → x ≡ s) → HasText heap at → IsUtf8 x
text_utf8 heap x at is some = IsUtf8-had x (∥∥₁_map some (λ p. subst IsUtf8 (sym (is p.0 (text_sized heap at p.0 p.1))) p.1.stands.utf8))
