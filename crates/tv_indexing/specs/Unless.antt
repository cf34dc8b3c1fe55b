-- What a call promises that may be refused memory.
use Rattle.std.specs.Prelude.{◌≢◌, MatchResult, Result, Ok, Err}

-- The result is an answer of this kind, unless it is this one error, of which nothing more is said.
abbrev pub Unless : {T E : Type 0} → E → (Result T E → Type 0) → Result T E → Type 0
Unless error IsAnswer result = MatchResult result (λ made. IsAnswer (Ok made)) (λ why. why ≢ error
    → IsAnswer (Err why))
