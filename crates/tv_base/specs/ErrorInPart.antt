-- What is wrong with bytes of which no prefix encodes a part: the first parts are encoded, and the next is
-- malformed.
use Rattle.std.specs.Prelude.{◌≡◌, ◌≢◌, ℕ, zero, suc, ◌<◌, ◌⊎◌, List, [], ◌∷◌, ◌++◌, length, IsUtf8}
use Rattle.std.specs.List.{AllByRecursion}
use Rattle.tv_base.specs.declared.cause.Cause.{Cause}
use Rattle.tv_base.specs.declared.cause.Cause.TheVariants.{UnexpectedEnd, BadNumber, BadBool, NotUtf8}
use Rattle.tv_base.specs.Number.{VNum}
use Rattle.tv_base.specs.Parts.{Then, Sized}

-- which bytes are malformed, and why
abbrev pub ErrorGrammar : Type 0 → Type 1
ErrorGrammar C = List ℕ → C → Type 0

-- a first part is malformed, or it is encoded, and what follows is malformed
abbrev pub InThen : {C A : Type 0} → (List ℕ → C → Type 0) → (List ℕ → A → Type 0) → (A → List ℕ → C → Type 0)
    → List ℕ → C → Type 0
InThen {C} {A} F R G whole cause = F whole cause
    ⊎ ((x : A) × Then (λ b. R b x) (λ rest. G x rest cause) whole)

-- of a number of items one is malformed, and those before it are encoded
abbrev pub InEach : {C A : Type 0} → (List ℕ → C → Type 0) → (List ℕ → A → Type 0) → ℕ → List ℕ → C → Type 0
InEach F R zero whole cause = ⊥
InEach F R (suc n) whole cause = InThen F R (λ _. InEach F R n) whole cause

-- of a number: it doesn't end, or it isn't below 2 ^ 64
pub data ErrorInNumber (whole : List ℕ) : Cause → Type 0 where
  number_ends : length whole < 10 → AllByRecursion (λ b. b < 128) whole → ErrorInNumber whole UnexpectedEnd
  number_large : (prefix rest : List ℕ) (b : ℕ) → whole ≡ prefix ++ (b ∷ rest) → length prefix ≡ 9
      → AllByRecursion (λ b. b < 128) prefix → b ≢ 128 → b ≢ 129
      → ErrorInNumber whole BadNumber

-- of this many bytes: there are fewer
pub data ErrorInBytes (wanted : ℕ) (whole : List ℕ) : Cause → Type 0 where
  bytes_end : length whole < wanted → ErrorInBytes wanted whole UnexpectedEnd

-- of a truth value: there is no byte, or it is neither 0 nor 1
pub data ErrorInTruth (whole : List ℕ) : Cause → Type 0 where
  truth_ends : whole ≡ [] → ErrorInTruth whole UnexpectedEnd
  truth_large : (b : ℕ) (rest : List ℕ) → whole ≡ b ∷ rest → 1 < b → ErrorInTruth whole BadBool

-- of bytes after their length
abbrev pub ErrorInSized : List ℕ → Cause → Type 0
ErrorInSized = InThen ErrorInNumber VNum ErrorInBytes

-- of a text: its bytes are there, and are no UTF-8
pub data ErrorInText (whole : List ℕ) : Cause → Type 0 where
  in_sized : {c : Cause} → ErrorInSized whole c → ErrorInText whole c
  no_text : (content prefix rest : List ℕ) → whole ≡ prefix ++ rest → Sized prefix content → ¬ IsUtf8 content
      → ErrorInText whole NotUtf8
