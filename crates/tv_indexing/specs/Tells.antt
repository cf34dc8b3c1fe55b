-- What an error says, where memory may be refused.
use Rattle.std.specs.Prelude.{◌≡◌, ◌≢◌, MatchResult, Result, Ok, Err}

-- The error is one that holds. Or it is the one for refused memory, and then each that holds takes memory to
-- find.
abbrev pub Tells : {E : Type 0} → E → (E → Type 0) → (E → Type 0) → E → Type 0
Tells {E} memory TakesMemory Holds error = (error ≢ memory → Holds error)
    × (error ≡ memory → (why : E) → Holds why → TakesMemory why)

-- The result is an answer of this kind, and an error is told so.
abbrev pub UnlessFirst : {T E : Type 0} → E → (E → Type 0) → (Result T E → Type 0) → Result T E → Type 0
UnlessFirst memory TakesMemory IsAnswer result = MatchResult result (λ made. IsAnswer (Ok made))
    (Tells memory TakesMemory (λ error. IsAnswer (Err error)))
