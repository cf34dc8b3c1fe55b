-- A strict prefix of an encoded part has the error that it ends too early.
use Rattle.std.proofs.Common.{◌≡◌, ◌≢◌, ℕ, zero, suc, ◌<◌, ◌≤◌, Bool, true, false, List, [], ◌∷◌, ◌++◌, length, refl, sym, ap, ◌∙◌, arith, length-append, inl, inr}
use Rattle.std.specs.List.{AllByRecursion}
use Rattle.tv_base.specs.declared.cause.Cause.TheVariants.{UnexpectedEnd}
use Rattle.tv_base.specs.Number.{Groups, last, more, VNum, Fixed, Truth}
use Rattle.tv_base.specs.Parts.{Then, Sized, Text, Each}
use Rattle.tv_base.specs.ErrorInPart.{InThen, InEach, ErrorInNumber, number_ends, ErrorInBytes, bytes_end, ErrorInTruth, truth_ends, ErrorInSized, ErrorInText, in_sized}
use Rattle.tv_base.proofs.Numbers.{length-fixed}

-- without some of the last bytes, what is of this kind has this error
pub record Early (P F : List ℕ → Type 0) : Type 0 where
  pub early : (whole start rest : List ℕ) → P whole → whole ≡ start ++ rest → rest ≢ [] → F start

pub none_cut : (start rest : List ℕ) → [] ≡ start ++ rest → rest ≢ [] → ⊥
none_cut [] rest e some = some (sym e)
none_cut (b ∷ start) rest e some = cc

-- ---- where it is cut

-- within the first of two parts, or after it
pub data Cut (p q start rest : List ℕ) : Type 0 where
  within : (cut : List ℕ) → p ≡ start ++ cut → cut ≢ [] → Cut p q start rest
  behind : (begun : List ℕ) → start ≡ p ++ begun → q ≡ begun ++ rest → Cut p q start rest

cut_more : (b d : ℕ) (p q start rest : List ℕ) → b ≡ d → Cut p q start rest → Cut (b ∷ p) q (d ∷ start) rest
cut_more b d p q start rest same (within cut e some) = within cut (λ i. same i ∷ e i) some
cut_more b d p q start rest same (behind begun e f) = behind begun (λ i. sym same i ∷ e i) f

pub cut_at : (p q start rest : List ℕ) → p ++ q ≡ start ++ rest → Cut p q start rest
cut_at [] q start rest e = behind start refl e
cut_at (b ∷ p) q [] rest e = within (b ∷ p) refl (λ none. absurd cc)
cut_at (b ∷ p) q (d ∷ start) rest e =
    let same : b ≡ d = cc in
    let tail : p ++ q ≡ start ++ rest = cc in
    cut_more b d p q start rest same (cut_at p q start rest tail)

pub early_then : {C A : Type 0} (F : List ℕ → C → Type 0) (R : List ℕ → A → Type 0) (G : A → List ℕ → C → Type 0) (end : C) (x : A) {Q : List ℕ → Type 0}
    → Early (λ b. R b x) (λ w. F w end) → Early Q (λ w. G x w end) → Early (Then (λ b. R b x) Q) (λ w. InThen F R G w end)
early_then F R G end x {Q} first second = record {
  early = λ whole start rest p joined some.
      elim (cut_at p.prefix p.rest start rest (sym p.joined ∙ joined)) as (λ _. InThen F R G start end) [
        | within cut e short ↦ inl (first.early p.prefix start cut p.first e short)
        | behind begun e f ↦ inr (x, record { prefix = p.prefix; rest = begun; joined = e; first = p.first; second = second.early p.rest begun rest p.second f some })
      ];
}

pub early_each : {C A : Type 0} (F : List ℕ → C → Type 0) (R : List ℕ → A → Type 0) (end : C) → ((x : A) → Early (λ b. R b x) (λ w. F w end))
    → (n : ℕ) (xs : List A) → n ≡ length xs → Early (λ b. Each R b xs) (λ w. InEach F R n w end)
early_each F R end each n [] many = record { early = λ whole start rest p joined some. absurd (none_cut start rest (sym p ∙ joined) some) }
early_each F R end each (suc n) (x ∷ xs) many = early_then F R (λ _. InEach F R n) end x (each x) (early_each F R end each n xs (omega (arith, many)))
early_each F R end each zero (x ∷ xs) many = absurd (omega (arith, many))

-- ---- numbers

some_more : (rest : List ℕ) → rest ≢ [] → 1 ≤ length rest
some_more [] some = absurd (some refl)
some_more (b ∷ rest) some = omega arith

pub fewer : (whole start rest : List ℕ) → whole ≡ start ++ rest → rest ≢ [] → length start < length whole
fewer whole start rest joined some = omega (arith, ap length joined, length-append start rest, some_more rest some)

groups_early : {a : List ℕ} {n : ℕ} → Groups a n → (start rest : List ℕ) → a ≡ start ++ rest → rest ≢ [] → AllByRecursion (λ b. b < 128) start
groups_early (last h) [] rest e some = tt
groups_early (last h) (s ∷ start) rest e some = let tail : [] ≡ start ++ rest = cc in absurd (none_cut start rest tail some)
groups_early (more h g) [] rest e some = tt
groups_early (more {b = b} {bytes = bytes} h g) (s ∷ start) rest e some =
    let first : b ≡ s = cc in
    let tail : bytes ≡ start ++ rest = cc in
    (omega (arith, first, h), groups_early g start rest tail some)

pub early_number : (n : ℕ) → Early (λ b. VNum b n) (λ w. ErrorInNumber w UnexpectedEnd)
early_number n = record {
  early = λ whole start rest h joined some. number_ends (omega (arith, h.at_most_ten, fewer whole start rest joined some)) (groups_early h.groups start rest joined some);
}

-- ---- this many bytes

pub early_bytes : (k : ℕ) (P : List ℕ → Type 0) → ((b : List ℕ) → P b → length b ≡ k) → Early P (λ w. ErrorInBytes k w UnexpectedEnd)
early_bytes k P many = record { early = λ whole start rest p joined some. bytes_end (omega (arith, many whole p, fewer whole start rest joined some)) }

pub early_fixed : (k n : ℕ) → Early (λ b. Fixed k b n) (λ w. ErrorInBytes k w UnexpectedEnd)
early_fixed k n = early_bytes k (λ b. Fixed k b n) (λ b h. length-fixed h)

-- one byte
one_early : (d : ℕ) (start rest : List ℕ) → d ∷ [] ≡ start ++ rest → rest ≢ [] → start ≡ []
one_early d [] rest e some = refl
one_early d (b ∷ start) rest e some = let tail : [] ≡ start ++ rest = cc in absurd (none_cut start rest tail some)

pub early_truth : (b : Bool) → Early (λ w. Truth w b) (λ w. ErrorInTruth w UnexpectedEnd)
early_truth true = record { early = λ whole start rest p joined some. truth_ends (one_early 1 start rest (sym p ∙ joined) some) }
early_truth false = record { early = λ whole start rest p joined some. truth_ends (one_early 0 start rest (sym p ∙ joined) some) }

pub early_sized : (content : List ℕ) → Early (λ b. Sized b content) (λ w. ErrorInSized w UnexpectedEnd)
early_sized content = record {
  early = λ whole start rest p joined some.
      elim (cut_at p.size content start rest (sym p.joined ∙ joined)) as (λ _. ErrorInSized start UnexpectedEnd) [
        | within cut e short ↦ inl ((early_number (length content)).early p.size start cut p.number e short)
        | behind begun e f ↦ inr (length content, record { prefix = p.size; rest = begun; joined = e; first = p.number; second = bytes_end (fewer content begun rest f some) })
      ];
}

pub early_text : (content : List ℕ) → Early (λ b. Text b content) (λ w. ErrorInText w UnexpectedEnd)
early_text content = record { early = λ whole start rest p joined some. in_sized ((early_sized content).early whole start rest p.sized joined some) }
