-- What the serializers of values, arrays and objects do.
use Rattle.std.specs.Borrow.{Bor}
use Rattle.std.specs.Prelude.{◌≡◌, ◌-◌, ◌⊎◌, ◌++◌, ◌<◌, ◌≤◌, ◌^◌, ℕ, List, Option, Result, Ok, Err, IfErr}
use Rattle.std.specs.Prelude.{is_ok}
use Rattle.std.specs.Prelude.{if◌then◌else◌, option_map}
use Rattle.tv_base.specs.Number.{vnum}
use Rattle.tv_base.specs.declared.sink.ByteSink.{Ghosts}
use Rattle.tv_format.specs.Short.{short, IsValue}
use Rattle.tv_format.specs.Tree.{Tree}
use Rattle.tv_format.specs.Version.{Version}
use Rattle.tv_format.specs.declared.leaf_type.WriteVersion.{WriteVersion}
use Rattle.tv_value.specs.Nesting.{NestsWithin}
use Rattle.tv_value.specs.declared.nested.TheConstants.{MAX_DEPTH}
use Rattle.tv_writer.specs.Children.{short_key_of}
use Rattle.tv_writer.specs.Error.{WritesStore, IsIo, IsIoOrMemory}
use Rattle.tv_writer.specs.declared.serializers.SerializeError.{SerializeError}
use Rattle.tv_writer.specs.declared.serializers.SerializeError.TheVariants.{TooMany, TooDeep, WrongCount}
use Rattle.tv_writer.specs.declared.serializers.SerializeError.TheVariants.{Memory}
use Rattle.tv_writer.specs.declared.serializers.Depth.{Depth}
use Rattle.tv_writer.specs.declared.serializers.Depth.TheVariants as depths

-- a refusal, which writes nothing
abbrev pub WritesNothing : {S T : Type 0} → SerializeError → S → S → Result T SerializeError → Type 0
WritesNothing error old new result = (result ≡ Err error) × (new ≡ old)

-- a value that has no encoding is refused, or memory is before that is found; nothing is written
abbrev pub RefusesOrLacksMemory : {S T : Type 0} → S → S → Result T SerializeError → Type 0
RefusesOrLacksMemory old new result = WritesNothing TooMany old new result
    ⊎ WritesNothing Memory old new result

-- a value after its key, if it has one
abbrev pub short_child : Version → Option (Bor (List ℕ)) → Tree → List ℕ
short_child version key tree = short_key_of version (option_map (λ k. k.now) key) ++ short version tree

-- A write of this text returned the error: it left the sink so, with a failure more, of the kind that is
-- reported.
abbrev pub FailsToWrite : {S : Type 0} → Ghosts S → S → SerializeError → List ℕ → Type 0
FailsToWrite {S} sink old error text =
    IsIo error × (new : S) × WritesStore {T = ℕ} sink old new (Err error) (Ok text)

-- The number that an object announces isn't written: it is above 2^64 - 1, or else the sink failed.
pub record FailsToAnnounce {S T : Type 0} (sink : Ghosts S) (old : S) (announced : ℕ)
    (result : Result T SerializeError) : Type 0 where
  pub too_many : 2 ^ 64 ≤ announced → result ≡ Err TooMany
  pub fails : announced < 2 ^ 64 → IfErr result (λ error. FailsToWrite sink old error (vnum announced))

-- A serializer was begun for `count` values, as `version` has them: all of them are awaited, and each nests
-- within `MAX_DEPTH` lists.
pub record IsBegun (count : ℕ) (version : WriteVersion) (awaited : ℕ) (its_version : WriteVersion)
    (depth : Depth) : Type 0 where
  pub all : awaited ≡ count
  pub same : its_version ≡ version
  pub within : depth ≡ depths.Within MAX_DEPTH

-- The text of a value that has an encoding and nests within this many lists is written, unless the sink
-- fails, and any other is refused:
-- that it nests too deep is reported first.
pub record WritesWithin {S T : Type 0} (depth : ℕ) (tree : Tree) (sink : Ghosts S) (old new : S)
    (result : Result T SerializeError) (text : List ℕ) : Type 0 where
  pub writes : NestsWithin depth tree → IsValue tree → WritesStore sink old new result (Ok text)
  pub io : NestsWithin depth tree → IsValue tree → IfErr result IsIo
  pub many : NestsWithin depth tree → ¬ IsValue tree → WritesNothing TooMany old new result
  pub deep : ¬ NestsWithin depth tree → WritesNothing TooDeep old new result

-- The text of a value that has an encoding is written, unless the sink fails or, where it nests in more than
-- `MAX_DEPTH` lists, memory is
-- refused. Any other is refused, and nothing is written.
pub record WritesAnyDepth {S T : Type 0} (tree : Tree) (sink : Ghosts S) (old new : S)
    (result : Result T SerializeError) (text : List ℕ) : Type 0 where
  pub writes : IsValue tree → WritesStore sink old new result (Ok text)
  pub errors : IsValue tree → IfErr result IsIoOrMemory
  pub only_io : NestsWithin MAX_DEPTH tree → IsValue tree → IfErr result IsIo
  pub many : NestsWithin MAX_DEPTH tree → ¬ IsValue tree → WritesNothing TooMany old new result
  pub many_or_memory : ¬ IsValue tree → RefusesOrLacksMemory old new result

-- what is written of a value, by how deep those nest that are written
abbrev pub WritesToDepth : {S T : Type 0} → Depth → Tree → Ghosts S → S → S → Result T SerializeError → List ℕ
    → Type 0
WritesToDepth (depths.Within levels) tree sink old new result text =
    WritesWithin levels tree sink old new result text
WritesToDepth (depths.Any alloc) tree sink old new result text = WritesAnyDepth tree sink old new result text

-- how many are awaited after a call that gives one
abbrev pub awaited_after : {T : Type 0} → ℕ → Result T SerializeError → ℕ
awaited_after n result = if is_ok result then n - 1 else n

-- One of the awaited values is given: where none is awaited, nothing is written; else this text is, as
-- `WritesToDepth` says. After success one less is awaited.
pub record WritesNext {S T : Type 0} (awaited awaited_new : ℕ) (depth : Depth) (tree : Tree) (sink : Ghosts S)
    (old new : S) (result : Result T SerializeError) (text : List ℕ) : Type 0 where
  pub complete : awaited ≡ 0 → WritesNothing WrongCount old new result
  pub writes : 0 < awaited → WritesToDepth depth tree sink old new result text
  pub counted : awaited_new ≡ awaited_after awaited result
