-- The promise of reading: what a call returns and leaves that reads a value or passes over one, by the bytes
-- that its source had left.
--
-- A call that makes this promise does the following.
--   found        It returns only what a prefix of the bytes encodes, and leaves just the bytes after that
--                prefix.
--   only         Wherever a prefix encodes something that has room, it returns just that, unless an error
--                comes that may come all the same: the source fails, memory is refused or, within limits, a
--                limit is passed.
--   error        An error that speaks of the bytes is true of them.
--   shows        With an error that speaks of the bytes, it took just the bytes that show the error, and none
--                after them.
--   too_long     It says that the bytes are too long only where it took as many as can be counted, 2 ^ 64 -
--                1.
--   ends_early   The bytes that it took then end too early.
--   no_room      It says that there is no room only of bytes that encode what has none, or announce it.
--   errors       It returns no other errors than those of its kind.
--   taken        Whatever it returns, it took bytes from the front alone.
--   failures     It says that the source failed exactly where the source did, with the kind that the source
--                returned.
--   stays_known  What is known of the source stays known.
-- Known bytes are those that a source is known to give, however it is read. Only where fewer than 2 ^ 64 - 1
-- are left, `only` speaks of them.
use Rattle.std.specs.Prelude.{◌≡◌, ◌≢◌, ℕ, ◌-◌, ◌^◌, ◌<◌, List, [], ◌∷◌, ◌++◌, length, Result, Ok, Err, IfOk}
use Rattle.std.specs.Prelude.{IfErr, IsErrOf}
use Rattle.tv_base.specs.declared.cause.Cause.{Cause}
use Rattle.tv_base.specs.declared.cause.Cause.TheVariants.{UnexpectedEnd}
use Rattle.tv_base.specs.declared.cause.ReadError.{ReadError}
use Rattle.tv_base.specs.declared.cause.ReadError.TheVariants.{Corrupted, Io, Memory}
use Rattle.tv_base.specs.declared.source.ByteSource.{Ghosts}
use Rattle.tv_base.specs.Parts.{Begins}
use Rattle.tv_base.specs.Source.{Failures}
use Rattle.tv_base.specs.Stop.{Stop, CountsBy, CountsStop}
use Rattle.tv_base.specs.Stop.Stop.{InputError, Uncounted}
use Rattle.tv_base.specs.Take.{read_stop}

-- the bytes left are known, and fewer than 2 ^ 64 - 1
abbrev pub Known : {S : Type 0} → Ghosts S → S → Type 0
Known source old = source.is_known old × (length (source.left old) < 2 ^ 64 - 1)

-- Just the bytes that show an error were taken: they are malformed themselves, and without the last of them
-- only their end was missing.
-- Where the end is the error, all was taken.
pub record Shows {C : Type 0} (end : C) (HasError : List ℕ → C → Type 0) (old new : List ℕ)
    (error : C) : Type 0 where
  pub taken : List ℕ
  pub joined : old ≡ taken ++ new
  pub shown : HasError taken error
  pub all : error ≡ end → new ≡ []
  pub early : error ≢ end → (prefix : List ℕ) (byte : ℕ) → taken ≡ prefix ++ byte ∷ [] → HasError prefix end

-- The bytes that were taken end too early: only their end is malformed.
pub record EndsEarly {C : Type 0} (end : C) (HasError : List ℕ → C → Type 0) (old new : List ℕ) : Type 0 where
  pub taken : List ℕ
  pub joined : old ≡ taken ++ new
  pub shown : HasError taken end

-- as many bytes were taken as are counted, 2 ^ 64 - 1
abbrev pub TakesMost : List ℕ → List ℕ → Type 0
TakesMost old new = (prefix : List ℕ) × (old ≡ prefix ++ new) × (length prefix ≡ 2 ^ 64 - 1)

-- this value is returned and this rest left, unless an error comes that may come all the same
abbrev pub IsReadUnless : {X Y E : Type 0} → (E → Type 0) → (X → Y) → Result X E → Y → List ℕ → List ℕ
    → Type 0
IsReadUnless MayComeStill view (Ok x) y rest left = (view x ≡ y) × (left ≡ rest)
IsReadUnless MayComeStill view (Err e) y rest left = MayComeStill e

-- what is read: which bytes encode it, which errors bytes have, what has room, and for which bytes there is
-- none
pub record Grammar (R Y : Type 0) : Type 1 where
  pub Encodes : List ℕ → Y → Type 0
  pub HasError : List ℕ → R → Type 0
  pub HasRoom : Y → Type 0
  pub NoRoom : List ℕ → Type 0

-- the errors of a kind of reader: what is wrong with bytes that end too early, why each error stops it, which
-- say that there is no room, which may come, which may come although this prefix encodes what is read, and
-- what each says of the source's failures
pub record Errors (R E : Type 0) : Type 1 where
  pub end : R
  pub stop : E → Stop R
  pub IsFull : E → Type 0
  pub MayCome : E → Type 0
  pub MayComeStill : List ℕ → E → Type 0
  pub IsCounted : E → Failures → Failures → Type 0

-- the promise, for errors of this kind and what this grammar encodes: the call returned `result`, whose value
-- seen through `view` was read
pub record Reads {R E Y S X : Type 0} (kind : Errors R E) (grammar : Grammar R Y) (source : Ghosts S)
    (old new : S) (view : X → Y) (result : Result X E) : Type 0 where
  pub found : source.is_known old → IfOk result
      (λ x. Begins (λ prefix. grammar.Encodes prefix (view x)) (source.left old) (source.left new))
  pub only : Known source old → (y : Y) (prefix rest : List ℕ) → source.left old ≡ prefix ++ rest
      → grammar.Encodes prefix y → grammar.HasRoom y
      → IsReadUnless (kind.MayComeStill prefix) view result y rest (source.left new)
  pub error : source.is_known old → (e : E) (r : R) → IsErrOf result e → kind.stop e ≡ InputError r
      → grammar.HasError (source.left old) r
  pub shows : source.is_known old → (e : E) (r : R) → IsErrOf result e → kind.stop e ≡ InputError r
      → Shows kind.end grammar.HasError (source.left old) (source.left new) r
  pub too_long : source.is_known old → (e : E) (r : R) → IsErrOf result e → kind.stop e ≡ Uncounted r
      → TakesMost (source.left old) (source.left new)
  pub ends_early : source.is_known old → (e : E) (r : R) → IsErrOf result e → kind.stop e ≡ Uncounted r
      → EndsEarly r grammar.HasError (source.left old) (source.left new)
  pub no_room : source.is_known old → (e : E) → IsErrOf result e → kind.IsFull e
      → grammar.NoRoom (source.left old)
  pub errors : IfErr result kind.MayCome
  pub taken : source.is_known old → (prefix : List ℕ) × (source.left old ≡ prefix ++ source.left new)
  pub failures : CountsBy kind.IsCounted result (source.failures old) (source.failures new)
  pub stays_known : source.is_known old → source.is_known new

-- ---- values

-- an error that says nothing of the bytes: a read failed, or memory was refused
abbrev pub SaysNoCause : ReadError → Type 0
SaysNoCause (Corrupted c) = ⊥
SaysNoCause (Io kind) = Unit {0}
SaysNoCause Memory = Unit {0}

-- the errors of reading a value
abbrev pub value_errors : Errors Cause ReadError
value_errors = record {
  end = UnexpectedEnd;
  stop = read_stop;
  IsFull = λ _. ⊥;
  MayCome = λ _. Unit {0};
  MayComeStill = λ _. SaysNoCause;
  IsCounted = λ e. CountsStop (read_stop e);
}

-- values that these bytes encode: there is always room
abbrev pub values : {Y : Type 0} → (List ℕ → Y → Type 0) → (List ℕ → Cause → Type 0) → Grammar Cause Y
values Encodes HasError = record {
  Encodes = Encodes;
  HasError = HasError;
  HasRoom = λ _. Unit {0};
  NoRoom = λ _. ⊥;
}

-- a value is read
abbrev pub ReadsAs : {S X Y : Type 0} (source : Ghosts S) (old new : S) (view : X → Y)
    (result : Result X ReadError) (Encodes : List ℕ → Y → Type 0) (HasError : List ℕ → Cause → Type 0)
    → Type 0
ReadsAs source old new view result Encodes HasError =
    Reads value_errors (values Encodes HasError) source old new view result

-- a value is read, and no memory is taken
abbrev pub ReadsLean : {S X Y : Type 0} (source : Ghosts S) (old new : S) (view : X → Y)
    (result : Result X ReadError) (Encodes : List ℕ → Y → Type 0) (HasError : List ℕ → Cause → Type 0)
    → Type 0
ReadsLean source old new view result Encodes HasError = ReadsAs source old new view result Encodes HasError
    × (¬ IsErrOf result Memory)
