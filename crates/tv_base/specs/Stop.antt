-- Why a reader or a writer stopped, whatever its error type is: one set of definitions for each layer.
use Rattle.std.specs.Prelude.{◌≡◌, ℕ, ◌+◌, ◌-◌, ◌^◌, ◌≤◌, List, [], ◌++◌, length, Result, Ok, Err, IfErr}
use Rattle.std.specs.declared.io.ErrorKind.{ErrorKind}
use Rattle.tv_base.specs.Source.{Failures, HasFailed}

-- what was read or given is malformed, no more bytes can be counted and those that were taken end too early,
-- a read or a write failed with this kind, memory ran out, or this layer never says it
pub data Stop (F : Type 0) : Type 0 where
  InputError : (error : F) → Stop F
  Uncounted : (end : F) → Stop F
  Failed : (kind : ErrorKind) → Stop F
  Short : Stop F
  Never : Stop F

infixl 10 ◌>>=◌
abbrev pub ◌>>=◌ : {F A B : Type 0} → Result A F → (A → Result B F) → Result B F
(Ok x) >>= f = f x
(Err e) >>= f = Err e

-- a reading of a lower layer
abbrev pub lifted : {F G A : Type 0} → (F → G) → Result A (F × List ℕ) → Result A (G × List ℕ)
lifted to (Ok x) = Ok x
lifted to (Err f) = Err (to f.0, f.1)

-- An error is what reading meets first, and what it leaves then is left. Where no more bytes can be counted,
-- reading those that were
-- taken meets their end.
abbrev pub Stops : {F Y : Type 0} → Stop F → (List ℕ → Result (Y × List ℕ) (F × List ℕ)) → List ℕ → List ℕ → ℕ
    → Type 0
Stops (InputError f) reading taken rest count = reading (taken ++ rest) ≡ Err (f, rest)
Stops (Uncounted end) reading taken rest count = (count ≡ 2 ^ 64 - 1) × (reading taken ≡ Err (end, []))
Stops (Failed kind) reading taken rest count = Unit {0}
Stops Short reading taken rest count = Unit {0}
Stops Never reading taken rest count = ⊥

-- what is read of the bytes that were taken, whatever stands after them
abbrev pub Gives : {E F X Y : Type 0} → (E → Stop F) → (X → Y) → Result X E
    → (List ℕ → Result (Y × List ℕ) (F × List ℕ)) → List ℕ → List ℕ → ℕ → Type 0
Gives stop view (Ok x) reading taken rest count = (behind : List ℕ)
    → reading (taken ++ behind) ≡ Ok (view x, behind)
Gives stop view (Err e) reading taken rest count = Stops (stop e) reading taken rest count

abbrev pub CountsStop : {F : Type 0} → Stop F → Failures → Failures → Type 0
CountsStop (InputError f) old new = new ≡ old
CountsStop (Uncounted end) old new = new ≡ old
CountsStop (Failed kind) old new = HasFailed kind old new
CountsStop Short old new = new ≡ old
CountsStop Never old new = ⊥

-- without an error there was no failure, and each error says what there was
abbrev pub CountsBy : {E T : Type 0} → (E → Failures → Failures → Type 0) → Result T E → Failures → Failures
    → Type 0
CountsBy IsCounted (Ok x) old new = new ≡ old
CountsBy IsCounted (Err e) old new = IsCounted e old new

-- an error of a read or a write is reported with its kind, and only where there was one
abbrev pub Counts : {E F T : Type 0} → (E → Stop F) → Result T E → Failures → Failures → Type 0
Counts stop result old new = CountsBy (λ e. CountsStop (stop e)) result old new

-- a slice of the bytes was taken, and counted
pub record Taken (old new : List ℕ) (count now : ℕ) : Type 0 where
  pub prefix : List ℕ
  pub joined : old ≡ prefix ++ new
  pub counted : now ≡ count + length prefix

-- What a reader does. Its error may stop it after the bytes that are counted then.
pub record Takes {P E F X Y : Type 0} (stop : E → Stop F) (MayStop : E → ℕ → Type 0) (is_known : P → Type 0)
    (left : P → List ℕ) (count : P → ℕ) (failures : P → Failures) (old new : P) (view : X → Y)
    (result : Result X E) (reading : List ℕ → Result (Y × List ℕ) (F × List ℕ)) : Type 0 where
  pub gives : is_known old → (taken : List ℕ) → left old ≡ taken ++ left new
      → Gives stop view result reading taken (left new) (count new)
  pub taken : is_known old → Taken (left old) (left new) (count old) (count new)
  pub stays_known : is_known old → is_known new
  pub counts : Counts stop result (failures old) (failures new)
  pub count_grows : count old ≤ count new
  pub may_stop : IfErr result (λ e. MayStop e (count new))
