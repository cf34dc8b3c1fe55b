-- What an append does to the bytes that a source has left, and to those that it is put after.
use Rattle.std.specs.Prelude.{◌≡◌, ℕ, ◌<◌, List, [], ◌++◌, length, Result, Ok, Err}
use Rattle.tv_base.specs.declared.cause.ReadError.{ReadError}
use Rattle.tv_base.specs.declared.cause.ReadError.TheVariants.{Corrupted, Io, Memory}
use Rattle.tv_base.specs.Stop.{Stop}
use Rattle.tv_base.specs.Stop.Stop.{Failed, Short, Never}

-- n bytes went from the prefix of what was left to after what was there; none only at the end or where none
-- were wanted
pub record Moves (old new before after : List ℕ) (most size : ℕ) : Type 0 where
  pub moved : List ℕ
  pub joined : old ≡ moved ++ new
  pub behind : after ≡ before ++ moved
  pub count : length moved ≡ size
  pub end : size ≡ 0 → 0 < most → old ≡ []

abbrev pub AppendsNext : List ℕ → List ℕ → List ℕ → List ℕ → ℕ → Result ℕ ReadError → Type 0
AppendsNext old new before after most (Ok n) = Moves old new before after most n
AppendsNext old new before after most (Err e) = new ≡ old

-- an append has no error in the input
abbrev pub append_stop : ReadError → Stop ⊥
append_stop (Corrupted c) = Never
append_stop (Io kind) = Failed kind
append_stop Memory = Short
