-- Where a reader stands is a proposition.
use Rattle.std.specs.Prelude.{◌≡◌, ℕ, Bool, false, Option, Some, None, refl}
use Rattle.std.specs.Coded.{coded_bool, Coded-set, le_prop}
use Rattle.std.proofs.Math.Nat.{ℕ_set}
use Rattle.tv_builder.specs.OneState.{coded_state}
use Rattle.tv_builder.specs.State.{State, complete, in_lists, in_bytes}
use Rattle.tv_builder.specs.Builder.{built, state_of}
use Rattle.tv_format.specs.Tree.{Document}
use Rattle.tv_format.specs.TreeCode.{coded_document}
use Rattle.tv_reading.specs.Prefix.{IsBetweenParts, IsPlace, IsSound}
use Rattle.tv_reading.specs.declared.reading.Reading.{Reading}

IsBetweenParts-prop : (state : State) → IsProp (IsBetweenParts state)
IsBetweenParts-prop (complete tree) one other = absurd one
IsBetweenParts-prop (in_lists ls) one other = refl
IsBetweenParts-prop (in_bytes ls kind number bs) one other = le_prop one other

IsPlace-prop : (announced : Option ℕ) (document : Document) (field : Option ℕ) (state : State)
    → IsProp (IsPlace announced document field state)
IsPlace-prop None document None state one other = λ i. (
  Coded-set coded_document _ _ one.0 other.0 i,
  Coded-set coded_state _ _ one.1 other.1 i,
)
IsPlace-prop None document (Some field) state one other = absurd one
IsPlace-prop (Some number) document None state one other =
    λ i. (le_prop one.0 other.0 i, Coded-set coded_state _ _ one.1 other.1 i)
IsPlace-prop (Some number) document (Some field) state one other =
    λ i. (le_prop one.0 other.0 i, IsBetweenParts-prop state one.1 other.1 i)

IsSound-prop : (reading : Reading) → IsProp (IsSound reading)
IsSound-prop reading one other =
    let place = IsPlace-prop reading.announced (built reading.builder) reading.field
    (state_of reading.builder) one.place other.place in
    λ i. record {
      not_failed = Coded-set coded_bool _ _ one.not_failed other.not_failed i;
      counted = ℕ_set _ _ one.counted other.counted i;
      place = place i;
    }

-- as long as no step has failed
pub SoundUnless-prop : (failed : Bool) (reading : Reading) → IsProp (failed ≡ false → IsSound reading)
SoundUnless-prop failed reading one other = λ i live. IsSound-prop reading (one live) (other live) i
