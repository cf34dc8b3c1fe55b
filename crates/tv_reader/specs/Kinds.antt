-- Reading the type of a value from left to right.
use Rattle.std.specs.Prelude.{◌==◌, ℕ, List, Option, Some, None, Result, Ok, Err, if◌then◌else◌}
use Rattle.tv_base.specs.declared.cause.Cause.{Cause}
use Rattle.tv_base.specs.declared.cause.Cause.TheVariants.{UnknownTypeCode, FloatCode, UnknownExtCode}
use Rattle.tv_base.specs.Reading.{u8_at}
use Rattle.tv_base.specs.Stop.{◌>>=◌}
use Rattle.tv_reader.specs.ValueType.{value_type_with}
use Rattle.tv_reader.specs.declared.value_type.ValueType.{ValueType}
use Rattle.tv_reader.specs.declared.value_type.ValueType.TheVariants as types

abbrev pub extension_of : ℕ → List ℕ → Result (ValueType × List ℕ) (Cause × List ℕ)
extension_of code bytes = if code == 0 then Ok (types.PreTokStr, bytes) else Err (UnknownExtCode code, bytes)

-- after the code of an extension
unfoldable pub extension_at : List ℕ → Result (ValueType × List ℕ) (Cause × List ℕ)
extension_at bytes = do
  code ← u8_at bytes
  extension_of code.0 code.1

abbrev pub known_kind : ℕ → List ℕ → Option ValueType → Result (ValueType × List ℕ) (Cause × List ℕ)
known_kind code bytes (Some kind) = Ok (kind, bytes)
known_kind code bytes None = Err (UnknownTypeCode code, bytes)

abbrev pub kind_of : ℕ → List ℕ → Result (ValueType × List ℕ) (Cause × List ℕ)
kind_of code bytes =
    if code == 7 then extension_at bytes else (
    if code == 6 then Err (FloatCode, bytes) else known_kind code bytes (value_type_with code))

unfoldable pub kind_at : List ℕ → Result (ValueType × List ℕ) (Cause × List ℕ)
kind_at bytes = do
  code ← u8_at bytes
  kind_of code.0 code.1
