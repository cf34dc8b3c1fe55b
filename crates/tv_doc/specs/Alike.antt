-- What two calls return that make a document of the same values.
use Rattle.std.specs.Prelude.{◌≡◌, ◌≢◌, Result, Ok, Err, string_bytes}
use Rattle.tv_doc.specs.Document.{document_of}
use Rattle.tv_doc.specs.declared.document.CompactDoc.{CompactDoc}
use Rattle.tv_doc.specs.declared.errors.DocParsingError.{DocParsingError}
use Rattle.tv_doc.specs.declared.errors.DocParsingError.TheVariants as errors
use Rattle.tv_doc.specs.declared.errors.StrictParsingError.{StrictParsingError}
use Rattle.tv_doc.specs.declared.errors.StrictParsingError.TheVariants.{Parsing, UnknownKey, RepeatedKey}
use Rattle.tv_field.specs.JsonAnswer.{error_of}

-- both errors say the same
abbrev pub SaySame : DocParsingError → DocParsingError → Type 0
SaySame (errors.InvalidJson start) (errors.InvalidJson other) = string_bytes start ≡ string_bytes other
SaySame (errors.ValueError name error) (errors.ValueError other second) =
    (string_bytes name ≡ string_bytes other) × (error_of error ≡ error_of second)
SaySame (errors.Add error) (errors.Add other) = error ≡ other
SaySame error other = ⊥

-- The same document is made, or both errors say the same, unless memory was refused to one of the calls.
abbrev pub AreAlike : Result CompactDoc DocParsingError → Result CompactDoc DocParsingError → Type 0
AreAlike (Ok made) (Ok other) = document_of made ≡ document_of other
AreAlike (Ok made) (Err error) = error ≡ errors.Memory
AreAlike (Err error) (Ok made) = error ≡ errors.Memory
AreAlike (Err error) (Err other) = error ≢ errors.Memory → other ≢ errors.Memory → SaySame error other

-- ---- where each key names a field, once

abbrev pub SayStrictlySame : StrictParsingError → StrictParsingError → Type 0
SayStrictlySame (Parsing error) (Parsing other) = SaySame error other
SayStrictlySame (UnknownKey start) (UnknownKey other) = string_bytes start ≡ string_bytes other
SayStrictlySame (RepeatedKey start) (RepeatedKey other) = string_bytes start ≡ string_bytes other
SayStrictlySame error other = ⊥

abbrev pub AreStrictlyAlike : Result CompactDoc StrictParsingError → Result CompactDoc StrictParsingError
    → Type 0
AreStrictlyAlike (Ok made) (Ok other) = document_of made ≡ document_of other
AreStrictlyAlike (Ok made) (Err error) = error ≡ Parsing errors.Memory
AreStrictlyAlike (Err error) (Ok made) = error ≡ Parsing errors.Memory
AreStrictlyAlike (Err error) (Err other) = error ≢ Parsing errors.Memory → other ≢ Parsing errors.Memory
    → SayStrictlySame error other
