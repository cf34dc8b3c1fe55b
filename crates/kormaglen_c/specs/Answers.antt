-- What the calls answer, by the numbers that tell it.
use Rattle.std.specs.Prelude.{◌≡◌, ℕ, ◌==◌, if◌then◌else◌, List, MatchOption, Option, Some, None, Result, Ok}
use Rattle.std.specs.Prelude.{Err}
use Rattle.tv_blocks.specs.Buffer.{FillsBuffer}
use Rattle.tv_blocks.specs.Status.{call_answer, import_answer, wrong_version}
use Rattle.tv_blocks.specs.declared.block_error.BlockError.{BlockError}
use Rattle.tv_blocks.specs.declared.field_path.FoundField.{FoundField}
use Rattle.tv_blocks.specs.declared.import.Imported.{Imported}
use Rattle.tv_blocks.specs.declared.status.Answer.{Answer}
use Rattle.tv_format.specs.Version.{Version}
use Rattle.tv_format.specs.WriteVersion.{written_version}
use Rattle.tv_format.specs.declared.leaf_type.WriteVersion.{WriteVersion}
use Rattle.tv_format.specs.declared.leaf_type.WriteVersion.TheVariants as versions
use Rattle.tv_reader.specs.Version.{version_of, version_of_number}

-- the answer tells what a call did that writes into a buffer
abbrev pub AnswersFill : (List ℕ → Type 0) → (BlockError → Type 0) → List ℕ → List ℕ → Answer → Type 0
AnswersFill P R old new answer = (told : Result ℕ BlockError) × FillsBuffer P R old new told
    × (answer ≡ call_answer told)

-- what is found where nothing is
abbrev pub nothing_found : FoundField
nothing_found = record { field = 0; rest = 0 }

-- the answer tells that something was found of which P holds, or that nothing was for a reason of which R
-- holds
abbrev pub FoundOr : (FoundField → Type 0) → (BlockError → Type 0) → FoundField → Result ℕ BlockError → Type 0
FoundOr P R found (Ok size) = P found × (size ≡ 0)
FoundOr P R found (Err e) = R e × (found ≡ nothing_found)

abbrev pub AnswersFound : (FoundField → Type 0) → (BlockError → Type 0) → FoundField → Answer → Type 0
AnswersFound P R found answer = (told : Result ℕ BlockError) × FoundOr P R found told
    × (answer ≡ call_answer told)

-- what was found stands there, or nothing, and the answer tells which
abbrev pub TellsField : Result FoundField BlockError → FoundField → Answer → Type 0
TellsField (Ok field) found answer = (found ≡ field) × (answer ≡ call_answer (Ok 0))
TellsField (Err e) found answer = (found ≡ nothing_found) × (answer ≡ call_answer (Err e))

-- the answer tells what a call returned that imports lines
abbrev pub AnswersImport : (Result Imported BlockError → Type 0) → Answer → Type 0
AnswersImport Returns answer = (told : Result Imported BlockError) × Returns told
    × (answer ≡ import_answer told)

-- there is no such version, and nothing was written
abbrev pub IsWrongVersion : List ℕ → List ℕ → Answer → Type 0
IsWrongVersion old new answer = (answer ≡ wrong_version) × (new ≡ old)

-- the version of a number, in which documents are written
abbrev pub write_numbered : ℕ → Option WriteVersion
write_numbered number =
    if number == 2 then Some versions.V2 else (if number == 3 then Some versions.V3 else None)

-- What is answered for the version that a number names, in which documents are read: that there is none, and
-- then nothing was written; or this.
abbrev pub ByVersion : ℕ → List ℕ → List ℕ → Answer → (Version → Type 0) → Type 0
ByVersion number old new answer Answers =
    MatchOption (version_of_number number) (IsWrongVersion old new answer)
    (λ known. Answers (version_of known))

-- the same of a version in which documents are written
abbrev pub ByWrittenVersion : ℕ → List ℕ → List ℕ → Answer → (Version → Type 0) → Type 0
ByWrittenVersion number old new answer Answers =
    MatchOption (write_numbered number) (IsWrongVersion old new answer)
    (λ known. Answers (written_version known))
