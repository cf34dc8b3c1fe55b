-- Bytes are malformed in one way only.
use Rattle.std.proofs.Common.{◌≡◌, ℕ, zero, suc, List, ◌∷◌, ◌++◌, length, refl, sym, ◌∙◌, ap, subst, arith, inl, inr, length-append}
use Rattle.tv_base.specs.declared.cause.Cause.{Cause}
use Rattle.tv_base.specs.Number.{VNum}
use Rattle.tv_base.specs.Parts.{OneReading, Then}
use Rattle.tv_base.specs.ErrorInPart.{InThen, InEach, ErrorInNumber, number_ends, number_large, ErrorInBytes, bytes_end, ErrorInSized, ErrorInText, in_sized, no_text}
use Rattle.tv_base.proofs.Numbers.{one_number}
use Rattle.tv_base.proofs.Excluding.{Excludes, rests, excludes_number}
use Rattle.tv_base.proofs.ExcludingParts.{excludes_sized}

pub record Single {C : Type 0} (F : List ℕ → C → Type 0) : Type 0 where
  pub single : (whole : List ℕ) (c d : C) → F whole c → F whole d → c ≡ d

-- the first part is malformed, or it is encoded, but not both
apart : {C A : Type 0} {F : List ℕ → C → Type 0} {R : List ℕ → A → Type 0} {Q : List ℕ → Type 0} → ((m : A) → Excludes F (λ b. R b m)) → (whole : List ℕ) (c : C) (m : A) → F whole c → Then (λ b. R b m) Q whole → ⊥
apart f whole c m h p = (f m).excludes whole p.prefix p.rest c h p.first p.joined

both_behind : {C A : Type 0} {R : List ℕ → A → Type 0} (G : A → List ℕ → C → Type 0) → OneReading R → ((m : A) → Single (G m)) → (whole : List ℕ) (c d : C) (m n : A)
    → Then (λ b. R b m) (λ rest. G m rest c) whole → Then (λ b. R b n) (λ rest. G n rest d) whole → c ≡ d
both_behind G one g whole c d m n p q =
    let both : p.prefix ++ p.rest ≡ q.prefix ++ q.rest = sym p.joined ∙ q.joined in
    let same = one p.prefix q.prefix p.rest q.rest m n p.first q.first both in
    let left = rests p.prefix p.rest q.prefix q.rest same.0 both in
    (g m).single p.rest c d p.second (subst (λ k. G k p.rest d) (sym same.1) (subst (λ l. G n l d) (sym left) q.second))

pub single_then : {C A : Type 0} {F : List ℕ → C → Type 0} {R : List ℕ → A → Type 0} {G : A → List ℕ → C → Type 0}
    → Single F → ((m : A) → Excludes F (λ b. R b m)) → OneReading R → ((m : A) → Single (G m)) → Single (InThen F R G)
single_then {F = F} {R = R} {G = G} f ex one g = record {
  single = λ whole c d x y. (elim x as (λ _. c ≡ d) [
    | inl h ↦ (elim y as (λ _. c ≡ d) [ inl k ↦ f.single whole c d h k | inr k ↦ absurd (apart ex whole c k.0 h k.1) ])
    | inr h ↦ (elim y as (λ _. c ≡ d) [ inl k ↦ absurd (apart ex whole d h.0 k h.1) | inr k ↦ both_behind G one g whole c d h.0 k.0 h.1 k.1 ])
  ]);
}

pub single_each : {C A : Type 0} {F : List ℕ → C → Type 0} {R : List ℕ → A → Type 0}
    → Single F → ((m : A) → Excludes F (λ b. R b m)) → OneReading R → (n : ℕ) → Single (InEach F R n)
single_each f ex one zero = record { single = λ whole c d x y. absurd x }
single_each {F = F} {R = R} f ex one (suc n) = single_then {G = λ _. InEach F R n} f ex one (λ _. single_each f ex one n)

number_single : (whole : List ℕ) (c d : Cause) → ErrorInNumber whole c → ErrorInNumber whole d → c ≡ d
number_single whole c d (number_ends l small) (number_ends k low) = refl
number_single whole c d (number_large prefix rest b joined l small ne nf) (number_large f r a e k low n m) = refl
number_single whole c d (number_ends l small) (number_large prefix rest b joined k low ne nf) = absurd (omega (arith, ap length joined, length-append prefix (b ∷ rest)))
number_single whole c d (number_large prefix rest b joined k low ne nf) (number_ends l small) = absurd (omega (arith, ap length joined, length-append prefix (b ∷ rest)))

pub single_number : Single ErrorInNumber
single_number = record { single = number_single }

bytes_single : (n : ℕ) (whole : List ℕ) (c d : Cause) → ErrorInBytes n whole c → ErrorInBytes n whole d → c ≡ d
bytes_single n whole c d (bytes_end h) (bytes_end k) = refl

pub single_bytes : (n : ℕ) → Single (ErrorInBytes n)
single_bytes n = record { single = bytes_single n }

pub single_sized : Single ErrorInSized
single_sized = single_then {R = VNum} {G = ErrorInBytes} single_number excludes_number one_number single_bytes

text_single : (whole : List ℕ) (c d : Cause) → ErrorInText whole c → ErrorInText whole d → c ≡ d
text_single whole c d (in_sized h) (in_sized k) = single_sized.single whole c d h k
text_single whole c d (no_text content prefix rest joined q none) (no_text other f r e k n) = refl
text_single whole c d (in_sized h) (no_text content prefix rest joined q none) = absurd ((excludes_sized content).excludes whole prefix rest c h q joined)
text_single whole c d (no_text content prefix rest joined q none) (in_sized h) = absurd ((excludes_sized content).excludes whole prefix rest d h q joined)

pub single_text : Single ErrorInText
single_text = record { single = text_single }
