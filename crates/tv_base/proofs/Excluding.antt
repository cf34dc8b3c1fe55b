-- Where a part is malformed, no prefix of the bytes encodes one.
use Rattle.std.proofs.Common.{◌≡◌, ℕ, zero, suc, ◌+◌, ◌*◌, ◌^◌, ◌<◌, ◌≤◌, List, [], ◌∷◌, ◌++◌, length, sym, ◌∙◌, ap, subst, arith, append_assoc, inl, inr}
use Rattle.std.specs.List.{AllByRecursion}
use Rattle.std.proofs.lemmas.List.{append_cancel_left}
use Rattle.std.proofs.Math.Nat.{pow-suc}
use Rattle.tv_base.specs.declared.cause.Cause.{Cause}
use Rattle.tv_base.specs.Parts.{OneReading, Then, Each}
use Rattle.tv_base.specs.Number.{Groups, last, more, VNum}
use Rattle.tv_base.specs.ErrorInPart.{InThen, InEach, ErrorInNumber, number_ends, number_large}

pub record Excludes {C : Type 0} (F : List ℕ → C → Type 0) (P : List ℕ → Type 0) : Type 0 where
  pub excludes : (whole a x : List ℕ) (c : C) → F whole c → P a → whole ≡ a ++ x → ⊥

pub excludes_map : {C : Type 0} {F : List ℕ → C → Type 0} {P Q : List ℕ → Type 0} → ((b : List ℕ) → Q b → P b) → Excludes F P → Excludes F Q
excludes_map f r = record { excludes = λ whole a x c p q e. r.excludes whole a x c p (f a q) e }

-- where the prefixes are one, so are the rests
pub rests : (prefix rest a y : List ℕ) → prefix ≡ a → prefix ++ rest ≡ a ++ y → rest ≡ y
rests prefix rest a y p e = append_cancel_left a rest y (ap (λ z. z ++ rest) (sym p) ∙ e)

pub excludes_then : {C A : Type 0} (F : List ℕ → C → Type 0) (R : List ℕ → A → Type 0) (G : A → List ℕ → C → Type 0) {Q : List ℕ → Type 0} (m : A)
    → Excludes F (λ b. R b m) → OneReading R → Excludes (G m) Q → Excludes (InThen F R G) (Then (λ b. R b m) Q)
excludes_then F R G {Q} m f one g = record {
  excludes = λ whole a x c error p e.
      let cut : whole ≡ p.prefix ++ (p.rest ++ x) = e ∙ ap (λ z. z ++ x) p.joined ∙ append_assoc p.prefix p.rest x in
      (elim error as (λ _. ⊥) [
        | inl h ↦ f.excludes whole p.prefix (p.rest ++ x) c h p.first cut
        | inr h ↦
            let both : h.1.prefix ++ h.1.rest ≡ p.prefix ++ (p.rest ++ x) = sym h.1.joined ∙ cut in
            let same = one h.1.prefix p.prefix h.1.rest (p.rest ++ x) h.0 m h.1.first p.first both in
            let left = rests h.1.prefix h.1.rest p.prefix (p.rest ++ x) same.0 both in
            g.excludes h.1.rest p.rest x c (subst (λ n. G n h.1.rest c) same.1 h.1.second) p.second left
      ]);
}

pub excludes_each : {C A : Type 0} (F : List ℕ → C → Type 0) (R : List ℕ → A → Type 0) → ((m : A) → Excludes F (λ b. R b m)) → OneReading R
    → (n : ℕ) (xs : List A) → n ≡ length xs → Excludes (InEach F R n) (λ b. Each R b xs)
excludes_each F R f one zero xs e = record { excludes = λ whole a x c error p q. error }
excludes_each F R f one (suc n) (m ∷ xs) e = excludes_then F R (λ _. InEach F R n) m (f m) one (excludes_each F R f one n xs (omega arith))
excludes_each F R f one (suc n) [] e = absurd (omega arith)

-- numbers

pub groups_some : {bytes : List ℕ} {n : ℕ} → Groups bytes n → 1 ≤ length bytes
groups_some (last p) = omega arith
groups_some (more p g) = omega arith

-- no groups are a prefix of bytes below 128
groups_end : {a : List ℕ} {n : ℕ} → Groups a n → (whole x : List ℕ) → AllByRecursion (λ b. b < 128) whole → whole ≡ a ++ x → ⊥
groups_end (last p) [] x small e = cc
groups_end (last {n = n} p) (b ∷ whole) x small e = let h : b ≡ n + 128 = cc in omega arith
groups_end (more p g) [] x small e = cc
groups_end (more {bytes = bytes} p g) (b ∷ whole) x small e =
    let left : whole ≡ bytes ++ x = cc in groups_end g whole x small.1 left

-- what groups have after this many bytes below 128
groups_high : {a : List ℕ} {n : ℕ} → Groups a n → (prefix rest x : List ℕ) (b : ℕ) → AllByRecursion (λ b. b < 128) prefix → prefix ++ (b ∷ rest) ≡ a ++ x
    → length a ≤ suc (length prefix) → (d : ℕ) × (b ≡ d + 128) × (128 ^ length prefix * d ≤ n)
groups_high (last {n = n} p) [] rest x b small e l = let h : b ≡ n + 128 = cc in (n, h, omega arith)
groups_high (more p g) [] rest x b small e l = absurd (omega (arith, groups_some g))
groups_high (last {n = n} p) (f ∷ prefix) rest x b small e l = let h : f ≡ n + 128 = cc in absurd (omega arith)
groups_high (more {b = g} {high = high} {bytes = bytes} p r) (f ∷ prefix) rest x b small e l =
    let left : prefix ++ (b ∷ rest) ≡ bytes ++ x = cc in
    let h = groups_high r prefix rest x b small.1 left (omega arith) in
    (h.0, h.1, rw pow-suc (omega (arith, h.2)))

pub excludes_number : (n : ℕ) → Excludes ErrorInNumber (λ b. VNum b n)
excludes_number n = record { excludes = λ whole a x c error p e. number_excludes whole a x c error p e }
  where
    number_excludes : (whole a x : List ℕ) (c : Cause) → ErrorInNumber whole c → VNum a n → whole ≡ a ++ x → ⊥
    number_excludes whole a x c (number_ends l small) p e = groups_end p.groups whole x small e
    number_excludes whole a x c (number_large prefix rest b joined l small ne nf) p e =
        let h = groups_high p.groups prefix rest x b small (sym joined ∙ e) (omega (arith, p.at_most_ten)) in
        let bound : 128 ^ 9 * h.0 ≤ n = subst (λ k. 128 ^ k * h.0 ≤ n) l h.2 in
        let d : h.0 < 2 = omega (arith, p.fits) in
        omega (arith, h.1)
