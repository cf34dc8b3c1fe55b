-- Objects that are read as lists or maps, legacy ones among them: what stands in such a one is read
-- of its tree's own encoding.
use Rattle.std.specs.Prelude.{◌≡◌, ◌≢◌, List, ℕ, ◌++◌, Result, Ok, Err}
use Rattle.tv_base.specs.declared.cause.Cause.TheVariants.{UnexpectedEnd}
use Rattle.tv_base.specs.ErrorInPart.{InThen}
use Rattle.tv_base.specs.Parts.{Begins}
use Rattle.tv_base.specs.Stop.{Stop}
use Rattle.tv_base.specs.Stop.Stop.{InputError, Uncounted, Failed, Short, Never}
use Rattle.tv_reader.specs.Legacy.{Legacy}
use Rattle.tv_format.specs.Short.{short}
use Rattle.tv_format.specs.Encoding.{Encodes}
use Rattle.tv_format.specs.Tree.{Tree}
use Rattle.tv_format.specs.Version.{Version, V2}
use Rattle.tv_reader.specs.ValueType.{type_prefix}
use Rattle.tv_reader.specs.declared.error.DeserializeError.{DeserializeError}
use Rattle.tv_reader.specs.declared.error.DeserializeError.TheVariants as errors
use Rattle.tv_reader.specs.declared.value_type.ValueType.{ValueType}
use Rattle.tv_reader.specs.declared.value_type.ValueType.TheVariants as types
use Rattle.tv_typed.specs.Typed.{typed_stop}
use Rattle.tv_typed.specs.Values.{TreeRefused, NextRefused}

-- A refusal of what a legacy object's tree encodes is reported as it is. To read past the end of
-- that encoding is to ask for what isn't there.
pub data Retold (error : DeserializeError) : DeserializeError → Type 0 where
  as_it_is : error ≢ errors.CorruptedValue UnexpectedEnd → Retold error error
  past_the_end : error ≡ errors.CorruptedValue UnexpectedEnd
      → Retold error (errors.UnsupportedType types.JSONObject)

-- the shortest encoding of this tree is refused
abbrev pub EncodingRefused : (List ℕ → DeserializeError → Type 0) → Tree → DeserializeError → Type 0
EncodingRefused Refused tree told =
    (error : DeserializeError) × Refused (short V2 tree) error × Retold error told

-- after its code a legacy object is malformed, or what its tree encodes is refused
abbrev pub LegacyRefused :
    (Version → ValueType → List ℕ → DeserializeError → Type 0) → Version → List ℕ → DeserializeError → Type 0
LegacyRefused refused version =
    InThen (TreeRefused version types.JSONObject)
    (λ bytes tree. Encodes Legacy version (type_prefix types.JSONObject ++ bytes) tree)
    (λ tree _. EncodingRefused (NextRefused refused V2) tree)

-- after the code of a type, where legacy objects are read too
pub data MembersRefused (refused : Version → ValueType → List ℕ → DeserializeError → Type 0)
    (version : Version) (kind : ValueType) (whole : List ℕ) (error : DeserializeError) : Type 0 where
  in_other : kind ≢ types.JSONObject → refused version kind whole error
      → MembersRefused refused version kind whole error
  in_legacy_object : kind ≡ types.JSONObject → LegacyRefused refused version whole error
      → MembersRefused refused version kind whole error

-- Why an encoding is refused, as it is reported. No read of it fails.
abbrev pub ToldOf : (List ℕ → DeserializeError → Type 0) → List ℕ → Stop DeserializeError → Type 0
ToldOf Refused bytes (InputError told) = (error : DeserializeError) × Refused bytes error × Retold error told
ToldOf Refused bytes (Uncounted error) = ⊥
ToldOf Refused bytes (Failed kind) = ⊥
ToldOf Refused bytes Short = Unit {0}
ToldOf Refused bytes Never = ⊥

-- A prefix of the bytes encodes that of which this is made, or they are refused.
abbrev pub OfEncoding : {X : Type 0} → (List ℕ → X → Type 0) → (List ℕ → DeserializeError → Type 0)
    → List ℕ → Result X DeserializeError → Type 0
OfEncoding Made Refused bytes (Ok value) = (rest : List ℕ) × Begins (λ part. Made part value) bytes rest
OfEncoding Made Refused bytes (Err told) = ToldOf Refused bytes (typed_stop told)
