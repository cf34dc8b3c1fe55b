-- Words and what they stand for.
use Rattle.std.proofs.Common.{◌≡◌, ℕ, List, ◌∷◌, Bool, true, false, Option, Some, cond, refl, sym}
use Rattle.std.proofs.lemmas.Slice.Eq.{bytes_eq-Decides}
use Rattle.std.specs.Str.{bytes_eq}
use Rattle.tv_schema.specs.SchemaJsonOptions.{by_word}

-- a choice whose test fails
pub cond-not : {A : Type 0} (b : Bool) (v : A) (rest : Option A) → (b ≡ true → ⊥) → cond b (Some v) rest ≡ rest
cond-not true v rest other = absurd (other refl)
cond-not false v rest other = refl

-- a value with another word is passed over
pub by_word-other : {A : Type 0} (word : A → List ℕ) (v : A) (vs : List A) (text : List ℕ) → (text ≡ word v → ⊥) → by_word word (v ∷ vs) text ≡ by_word word vs text
by_word-other word v vs text other =
    cond-not (bytes_eq (word v) text) v (by_word word vs text) (λ same. other (sym ((bytes_eq-Decides (word v) text).0 same)))
