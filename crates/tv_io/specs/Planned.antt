-- Which call of a source or a sink is the one that fails, and what each call does to the count of calls.
use Rattle.std.specs.Prelude.{◌≡◌, ℕ, ◌+◌, ◌-◌, ◌^◌, ◌<◌, zero, suc, min, Some, None}
use Rattle.tv_io.specs.declared.faulty.PlannedFailure.{PlannedFailure}

-- the call with a buffer of this length is the one that fails
abbrev pub IsFailing : ℕ → PlannedFailure → Type 0
IsFailing len plan = (0 < len) × (plan.fails_at ≡ Some plan.calls)

-- a call whose buffer has room is counted, up to 2 ^ 64 - 1
abbrev pub calls_after : ℕ → ℕ → ℕ
calls_after zero calls = calls
calls_after (suc len) calls = min (calls + 1) (2 ^ 64 - 1)

-- A call with a buffer of this length is counted. Once one has failed, none is to fail.
pub record CountsCall (len : ℕ) (old new : PlannedFailure) : Type 0 where
  pub counted : new.calls ≡ calls_after len old.calls
  pub failed : IsFailing len old → new.fails_at ≡ None
  pub passed : ¬ IsFailing len old → new.fails_at ≡ old.fails_at
  pub kind : new.kind ≡ old.kind
