-- Bytes of which each is below 256: so are their parts.
use Rattle.std.proofs.Common.{◌≡◌, ℕ, ◌<◌, List, ◌∷◌, ◌++◌, length, take, drop, get_or, refl, ap, subst, ◌∙◌, arith, take_at, drop_at, inl, inr}
use Rattle.std.proofs.lemmas.Bool.{cases_lt}
use Rattle.std.proofs.lemmas.List.{get_or_past}
use Rattle.std.proofs.lemmas.List.Elements.{All-head, All-take, All-drop, All-get_or}
use Rattle.tv_base.specs.Source.{AllBytes}

-- the prefix of bytes
pub bytes_before : (whole prefix rest : List ℕ) → whole ≡ prefix ++ rest → AllBytes whole → AllBytes prefix
bytes_before whole prefix rest e h = subst AllBytes (ap (take (length prefix)) e ∙ take_at prefix rest (length prefix) refl) (All-take (λ b. b < 256) (length prefix) whole h)

-- and what follows it
pub bytes_after : (whole prefix rest : List ℕ) → whole ≡ prefix ++ rest → AllBytes whole → AllBytes rest
bytes_after whole prefix rest e h = subst AllBytes (ap (drop (length prefix)) e ∙ drop_at prefix rest (length prefix) refl) (All-drop (λ b. b < 256) (length prefix) whole h)

pub first_byte : (b : ℕ) (rest : List ℕ) → AllBytes (b ∷ rest) → b < 256
first_byte b rest h = All-head (λ b. b < 256) b rest h

pub small_at : (bytes : List ℕ) → AllBytes bytes → (i : ℕ) → get_or bytes i 0 < 256
small_at bytes h i = elim (cases_lt i (length bytes)) [
  | inl within ↦ All-get_or (λ b. b < 256) bytes i 0 within h
  | inr past ↦ omega (arith, get_or_past bytes i 0 past)
]
