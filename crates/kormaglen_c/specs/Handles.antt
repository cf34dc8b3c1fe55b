-- What the calls answer whose schema a handle holds.
use Rattle.std.specs.Prelude.{◌≡◌, ℕ, List, Option, None, Some, Result, Ok, Err}
use Rattle.kormaglen_c.specs.Answers.{nothing_found}
use Rattle.tv_blocks.specs.Schemas.{IsRefusedSchema}
use Rattle.tv_blocks.specs.Status.{call_answer, nothing_written}
use Rattle.tv_blocks.specs.declared.block_error.BlockError.{BlockError}
use Rattle.tv_blocks.specs.declared.field_path.FoundField.{FoundField}
use Rattle.tv_blocks.specs.declared.import.LineAnswer.{LineAnswer}
use Rattle.tv_blocks.specs.declared.status.Answer.{Answer}
use Rattle.tv_field.specs.Entry.{Entry}
use Rattle.tv_lines.specs.Answers.{ReadsSchema}

-- the answer where a handle holds nothing
abbrev pub closed_answer : Answer
closed_answer = nothing_written 15 0 0

-- the handle holds the schema that the text describes; or it holds none, for this reason
abbrev pub OpensOr : List ℕ → Option (List Entry) → Result ℕ BlockError → Type 0
OpensOr json held (Ok size) = (entries : List Entry) × (held ≡ Some entries) × ReadsSchema json entries
    × (size ≡ 0)
OpensOr json held (Err e) = IsRefusedSchema json e × (held ≡ None)

abbrev pub AnswersOpened : List ℕ → Option (List Entry) → Answer → Type 0
AnswersOpened json held answer = (told : Result ℕ BlockError) × OpensOr json held told
    × (answer ≡ call_answer told)

-- the handle holds nothing, and nothing was written
abbrev pub IsClosedHandle : List ℕ → List ℕ → Answer → Type 0
IsClosedHandle old new answer = (answer ≡ closed_answer) × (new ≡ old)

abbrev pub IsClosedFound : FoundField → Answer → Type 0
IsClosedFound found answer = (answer ≡ closed_answer) × (found ≡ nothing_found)

abbrev pub IsClosedImport : List ℕ → List ℕ → List LineAnswer → List LineAnswer → Answer → Type 0
IsClosedImport old_bytes new_bytes old_answers new_answers answer =
    (answer ≡ closed_answer) × (new_bytes ≡ old_bytes) × (new_answers ≡ old_answers)
