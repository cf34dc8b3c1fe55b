-- What the errors of a tree builder are called by a reader of the store.
use Rattle.tv_base.specs.declared.cause.Cause.TheVariants as causes
use Rattle.tv_builder.specs.declared.errors.BuildError.{BuildError}
use Rattle.tv_builder.specs.declared.errors.BuildError.TheVariants as builds
use Rattle.tv_reader.specs.declared.error.DeserializeError.{DeserializeError}
use Rattle.tv_reader.specs.declared.error.DeserializeError.TheVariants as errors

-- those that come where each call is made in its place
abbrev pub ComesInPlace : BuildError → Type 0
ComesInPlace builds.AlreadyFailed = ⊥
ComesInPlace builds.OutOfPlace = ⊥
ComesInPlace builds.NotUtf8 = Unit {0}
ComesInPlace builds.HeapFull = Unit {0}
ComesInPlace builds.Memory = Unit {0}

abbrev pub build_error : BuildError → DeserializeError
build_error builds.AlreadyFailed = errors.AlreadyFailed
build_error builds.OutOfPlace = errors.AlreadyFailed
build_error builds.NotUtf8 = errors.CorruptedValue causes.NotUtf8
build_error builds.HeapFull = errors.HeapFull
build_error builds.Memory = errors.Memory
