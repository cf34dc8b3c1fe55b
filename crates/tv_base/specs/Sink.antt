-- What writes do to the bytes that a sink holds, and to its failures.
use Rattle.std.specs.Prelude.{◌≡◌, ℕ, List, ◌++◌, take, Result, Ok, Err}
use Rattle.tv_base.specs.Source.{Failures}
use Rattle.tv_base.specs.Stop.{Stop, Counts}
use Rattle.tv_base.specs.Stop.Stop.{InputError, Uncounted, Failed, Short, Never}

-- the first n bytes are appended, and an error appends none
abbrev pub AppendsSome : {E : Type 0} → List ℕ → List ℕ → Result ℕ E → List ℕ → Type 0
AppendsSome old new (Ok n) buf = new ≡ old ++ take n buf
AppendsSome old new (Err e) buf = new ≡ old

-- the prefix of a list
abbrev pub IsPrefix : List ℕ → List ℕ → Type 0
IsPrefix prefix xs = (rest : List ℕ) × (xs ≡ prefix ++ rest)

-- a beginning of the text is appended
abbrev pub AppendsPrefix : List ℕ → List ℕ → List ℕ → Type 0
AppendsPrefix old new text = (prefix : List ℕ) × IsPrefix prefix text × (new ≡ old ++ prefix)

-- What is to be written: a text, or a text and then a refusal. This is all of it that can be.
abbrev pub text_of : {R : Type 0} → Result (List ℕ) (R × List ℕ) → List ℕ
text_of (Ok text) = text
text_of (Err refusal) = refusal.1

-- a refusal comes where it is to come, after what is written before it; any other error can come at any place
abbrev pub Halts : {R : Type 0} → Stop R → List ℕ → List ℕ → Result (List ℕ) (R × List ℕ) → Type 0
Halts (InputError r) old new (Ok text) = ⊥
Halts (InputError r) old new (Err refusal) = (refusal.0 ≡ r) × (new ≡ old ++ refusal.1)
Halts (Uncounted end) old new writing = ⊥
Halts (Failed kind) old new writing = AppendsPrefix old new (text_of writing)
Halts Short old new writing = AppendsPrefix old new (text_of writing)
Halts Never old new writing = ⊥

abbrev pub Appends : {T E R : Type 0} → (E → Stop R) → Result T E → List ℕ → List ℕ
    → Result (List ℕ) (R × List ℕ) → Type 0
Appends stop (Ok x) old new (Ok text) = new ≡ old ++ text
Appends stop (Ok x) old new (Err refusal) = ⊥
Appends stop (Err e) old new writing = Halts (stop e) old new writing

-- At Ok the sink holds what was to be written after what was there, and no write failed. At Err it holds a
-- beginning of it; a write failed with the kind that is reported, or it was refused there, and no write
-- failed.
pub record WritesBy {S T E R : Type 0} (stop : E → Stop R) (is_known : S → Type 0) (held : S → List ℕ)
    (failures : S → Failures) (old new : S) (result : Result T E) (writing : Result (List ℕ) (R × List ℕ)) :
    Type 0 where
  pub appends : is_known old → Appends stop result (held old) (held new) writing
  pub stays_known : is_known old → is_known new
  pub counts : Counts stop result (failures old) (failures new)
