-- Why a writer of the store stops.
use Rattle.std.specs.Prelude.{ℕ, Result, List}
use Rattle.tv_base.specs.declared.sink.ByteSink.{Ghosts}
use Rattle.tv_base.specs.declared.cause.WriteError.{WriteError}
use Rattle.tv_base.specs.Sink.{WritesBy}
use Rattle.tv_base.specs.Stop.{Stop}
use Rattle.tv_base.specs.Stop.Stop.{InputError, Failed, Short}
use Rattle.tv_writer.specs.declared.serializers.SerializeError.{SerializeError}
use Rattle.tv_writer.specs.declared.serializers.SerializeError.TheVariants as writes

abbrev pub write_error : WriteError → SerializeError
write_error failed = writes.Io failed.0

-- why a writer of the store refuses what it was given
pub data Unwritten : Type 0 where
  wrong_count too_many too_deep : Unwritten

-- Why a writer of the store stopped: the sink failed, what it was given is refused, or memory was refused.
abbrev pub write_stop : SerializeError → Stop Unwritten
write_stop (writes.Io kind) = Failed kind
write_stop writes.WrongCount = InputError wrong_count
write_stop writes.TooMany = InputError too_many
write_stop writes.TooDeep = InputError too_deep
write_stop writes.Memory = Short

-- what a writer of the store returned and did, by what is to be written
abbrev pub WritesStore : {S T : Type 0} (sink : Ghosts S) (old new : S) (result : Result T SerializeError)
    (writing : Result (List ℕ) (Unwritten × List ℕ)) → Type 0
WritesStore sink old new result writing = WritesBy write_stop sink.is_known sink.held sink.failures old new
    result writing

-- the sink failed
abbrev pub IsIo : SerializeError → Type 0
IsIo (writes.Io kind) = Unit {0}
IsIo writes.WrongCount = ⊥
IsIo writes.TooMany = ⊥
IsIo writes.TooDeep = ⊥
IsIo writes.Memory = ⊥

-- the sink failed, or memory was refused
abbrev pub IsIoOrMemory : SerializeError → Type 0
IsIoOrMemory (writes.Io kind) = Unit {0}
IsIoOrMemory writes.WrongCount = ⊥
IsIoOrMemory writes.TooMany = ⊥
IsIoOrMemory writes.TooDeep = ⊥
IsIoOrMemory writes.Memory = Unit {0}
