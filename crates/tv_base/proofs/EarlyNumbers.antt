-- A number without its last byte doesn't end.
use Rattle.std.proofs.Common.{◌≡◌, ℕ, ◌<◌, List, [], ◌∷◌, ◌++◌, length, sym, ap, subst, arith, length-append}
use Rattle.std.specs.List.{AllByRecursion}
use Rattle.tv_base.specs.declared.cause.Cause.TheVariants.{UnexpectedEnd}
use Rattle.tv_base.specs.Number.{Groups, last, more, VNum}
use Rattle.tv_base.specs.ErrorInPart.{ErrorInNumber, number_ends}
use Rattle.tv_base.proofs.Agrees.{same_start}

no_groups : {a : List ℕ} {n : ℕ} → Groups a n → a ≡ [] → ⊥
no_groups (last h) e = cc
no_groups (more h g) e = cc

groups_early : {a : List ℕ} {n : ℕ} → Groups a n → (start : List ℕ) (byte : ℕ) → a ≡ start ++ byte ∷ [] → AllByRecursion (λ b. b < 128) start
groups_early (last h) start byte e = subst (AllByRecursion (λ b. b < 128)) (sym (same_start start [] byte _ (sym e))) tt
groups_early (more {b = b} {bytes = bytes} h g) [] byte e = let none : bytes ≡ [] = cc in absurd (no_groups g none)
groups_early (more {b = b} {bytes = bytes} h g) (s ∷ start) byte e =
    let first : b ≡ s = cc in
    let rest : bytes ≡ start ++ byte ∷ [] = cc in
    (omega (arith, first, h), groups_early g start byte rest)

pub number_early : (a : List ℕ) (n : ℕ) → VNum a n → (start : List ℕ) (byte : ℕ) → a ≡ start ++ byte ∷ [] → ErrorInNumber start UnexpectedEnd
number_early a n h start byte e = number_ends (omega (arith, h.at_most_ten, ap length e, length-append start (byte ∷ []))) (groups_early h.groups start byte e)
