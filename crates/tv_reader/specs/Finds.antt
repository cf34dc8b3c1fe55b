-- What a reader gives, where it is given by the grammar of the bytes and not by a reading of lists.
use Rattle.std.specs.Prelude.{◌≡◌, ℕ, ◌-◌, ◌^◌, ◌≤◌, List, Result, Ok, Err, IfErr}
use Rattle.tv_base.specs.declared.cause.Cause.TheVariants.{UnexpectedEnd}
use Rattle.tv_base.specs.declared.source.ByteSource.{Ghosts}
use Rattle.tv_base.specs.Parts.{Begins}
use Rattle.tv_base.specs.ReadsAs.{Shows, EndsEarly}
use Rattle.tv_base.specs.Source.{Failures}
use Rattle.tv_base.specs.Stop.{Stop, Counts, Taken}
use Rattle.tv_base.specs.Stop.Stop.{InputError, Uncounted, Failed, Short, Never}
use Rattle.tv_format.specs.InputError.{Refusal, corrupted}
use Rattle.tv_reader.specs.Error.{store_stop, tree_stop, StoreMayStop, StoreMayStopRoomy, StoreMayStopDeep}
use Rattle.tv_reader.specs.Error.{StoreMayStopLean}
use Rattle.tv_reader.specs.declared.error.DeserializeError.{DeserializeError}

-- the error stands in the bytes that were left, and just those that show it were taken
pub record ShowsRefusal {F : Type 0} (end : F) (HasError : List ℕ → F → Type 0) (old new : List ℕ)
    (error : F) : Type 0 where
  pub stands : HasError old error
  pub shows : Shows end HasError old new error

-- an error is reported; where no more bytes can be counted, those that were taken end too early
abbrev pub GivesStop : {F : Type 0} → F → (List ℕ → F → Type 0) → List ℕ → List ℕ → ℕ → Stop F → Type 0
GivesStop end HasError old new count (InputError f) = ShowsRefusal end HasError old new f
GivesStop end HasError old new count (Uncounted f) = (count ≡ 2 ^ 64 - 1) × EndsEarly f HasError old new
GivesStop end HasError old new count (Failed kind) = Unit {0}
GivesStop end HasError old new count Short = Unit {0}
GivesStop end HasError old new count Never = ⊥

-- the bytes that were taken encode what is read, or show why nothing is
abbrev pub Found : {E F X : Type 0} → (E → Stop F) → F → (List ℕ → X → Type 0) → (List ℕ → F → Type 0)
    → List ℕ → List ℕ → ℕ → Result X E → Type 0
Found stop end Encodes HasError old new count (Ok x) = Begins (λ b. Encodes b x) old new
Found stop end Encodes HasError old new count (Err e) = GivesStop end HasError old new count (stop e)

-- A reader of a source, with the count of the bytes that were taken of it: a slice of the bytes was taken and
-- counted, after a refusal too, a failure is reported with its kind, where there was one and only there, and
-- an error comes only where it may.
pub record FindsBy {S E F X : Type 0} (stop : E → Stop F) (MayStop : E → ℕ → Type 0) (end : F)
    (is_known : S → Type 0) (left : S → List ℕ) (failures : S → Failures) (old : S) (old_count : ℕ) (new : S)
    (new_count : ℕ) (result : Result X E) (Encodes : List ℕ → X → Type 0) (HasError : List ℕ → F → Type 0) :
    Type 0 where
  pub found : is_known old → Found stop end Encodes HasError (left old) (left new) new_count result
  pub taken : is_known old → Taken (left old) (left new) old_count new_count
  pub stays_known : is_known old → is_known new
  pub counts : Counts stop result (failures old) (failures new)
  pub count_grows : old_count ≤ new_count
  pub may_stop : IfErr result (λ e. MayStop e new_count)

-- the same of values, whose errors are refusals
abbrev pub FindsIf : {S X : Type 0} (May : DeserializeError → ℕ → Type 0) (is_known : S → Type 0)
    (left : S → List ℕ) (failures : S → Failures) (old : S) (old_count : ℕ) (new : S) (new_count : ℕ)
    (result : Result X DeserializeError) (Encodes : List ℕ → X → Type 0)
    (HasError : List ℕ → Refusal → Type 0) → Type 0
FindsIf May is_known left failures old old_count new new_count result Encodes HasError =
    FindsBy store_stop May (corrupted UnexpectedEnd) is_known left failures old old_count new new_count result
    Encodes HasError

-- no refusal stands in the bytes
abbrev pub Nothing : List ℕ → Refusal → Type 0
Nothing whole refusal = ⊥

-- the same of a reader of trees, to a depth
abbrev pub FindsDeepBy : {S X : Type 0} (is_known : S → Type 0) (left : S → List ℕ) (failures : S → Failures)
    (old : S) (old_count : ℕ) (new : S) (new_count : ℕ) (result : Result X DeserializeError)
    (Encodes : List ℕ → X → Type 0) (HasError : List ℕ → Refusal → Type 0) → Type 0
FindsDeepBy is_known left failures old old_count new new_count result Encodes HasError =
    FindsBy tree_stop StoreMayStopDeep (corrupted UnexpectedEnd) is_known left failures old old_count new
    new_count result Encodes HasError

-- ---- as contracts say it, of a source

abbrev pub Finds : {S X : Type 0} (source : Ghosts S) (old : S) (old_count : ℕ) (new : S) (new_count : ℕ)
    (result : Result X DeserializeError) (Encodes : List ℕ → X → Type 0)
    (HasError : List ℕ → Refusal → Type 0) → Type 0
Finds source old old_count new new_count result Encodes HasError =
    FindsIf StoreMayStop source.is_known source.left source.failures old old_count new new_count result
    Encodes HasError

-- a reader that fills no heap
abbrev pub FindsRoomy : {S X : Type 0} (source : Ghosts S) (old : S) (old_count : ℕ) (new : S) (new_count : ℕ)
    (result : Result X DeserializeError) (Encodes : List ℕ → X → Type 0)
    (HasError : List ℕ → Refusal → Type 0) → Type 0
FindsRoomy source old old_count new new_count result Encodes HasError =
    FindsIf StoreMayStopRoomy source.is_known source.left source.failures old old_count new new_count result
    Encodes HasError

-- a reader of trees, to a depth
abbrev pub FindsDeep : {S X : Type 0} (source : Ghosts S) (old : S) (old_count : ℕ) (new : S) (new_count : ℕ)
    (result : Result X DeserializeError) (Encodes : List ℕ → X → Type 0)
    (HasError : List ℕ → Refusal → Type 0) → Type 0
FindsDeep source old old_count new new_count result Encodes HasError =
    FindsDeepBy source.is_known source.left source.failures old old_count new new_count result Encodes
    HasError

-- a lean reader, which takes no memory
abbrev pub FindsLean : {S X : Type 0} (source : Ghosts S) (old : S) (old_count : ℕ) (new : S) (new_count : ℕ)
    (result : Result X DeserializeError) (Encodes : List ℕ → X → Type 0)
    (HasError : List ℕ → Refusal → Type 0) → Type 0
FindsLean source old old_count new new_count result Encodes HasError =
    FindsIf StoreMayStopLean source.is_known source.left source.failures old old_count new new_count result
    Encodes HasError
