-- Lines of JSON as a block of stored documents.
use Rattle.std.specs.Prelude.{◌≡◌, ℕ, ◌<◌, ◌≤◌, ◌⊎◌, false, List, ◌++◌, length, drop, map, Result, Ok, Err}
use Rattle.tv_blocks.specs.LineRefusals.{IsLenient, line_byte, line_field, line_number, refusal_of}
use Rattle.tv_blocks.specs.Refusals.{IsSchemaRefusal}
use Rattle.tv_blocks.specs.declared.block_error.BlockError.{BlockError}
use Rattle.tv_blocks.specs.declared.block_error.BlockError.TheVariants as errors
use Rattle.tv_blocks.specs.declared.import.Imported.{Imported}
use Rattle.tv_blocks.specs.declared.import.LineAnswer.{LineAnswer}
use Rattle.tv_field.specs.Entry.{Entry}
use Rattle.tv_lines.specs.Answers.{ReadsSchema}
use Rattle.tv_format.specs.declared.leaf_type.WriteVersion.TheVariants.{V2}
use Rattle.tv_lines.specs.Lines.{Lines}
use Rattle.tv_lines.specs.WholeImports.{Outcomes}
use Rattle.tv_lines.specs.declared.import.FaultRule.TheVariants.{Ignore}
use Rattle.tv_lines.specs.declared.import.ImportRules.{ImportRules}
use Rattle.tv_lines.specs.declared.import.LineOutcome.{LineOutcome}
use Rattle.tv_lines.specs.declared.import.LineOutcome.TheVariants as outcome

-- ---- what becomes of a line

-- the rules by which lines are imported: keys may name no field, and nothing is said of documents that can't
-- be searched
abbrev pub lenient : ImportRules
lenient = record { version = V2; strict = false; faults = Ignore }

-- the numbers that say what became of a line: how many bytes its stored pairs take; or why there is no
-- document of it, of which field or with what fault of its JSON, and at which byte of the line
abbrev pub line_answer : List Entry → LineOutcome → LineAnswer
line_answer schema (outcome.Stored size fault) = record { status = 0; field = 0; bytes = size }
line_answer schema (outcome.Refused why) = record {
  status = line_number (refusal_of schema why);
  field =
      line_field (refusal_of schema why);
  bytes = line_byte (refusal_of schema why);
}

-- What became of each line of the input: what all put into the block, and the answers that say it.
pub record ImportsLines (schema : List Entry) (input block : List ℕ)
    (answers : List LineAnswer) : Type 0 where
  pub lines : List (List ℕ)
  pub all : Lines input lines
  pub outcomes : List LineOutcome
  pub each : Outcomes schema lenient lines block outcomes
  pub answered : answers ≡ map (line_answer schema) outcomes

-- the schema's text describes a schema, by which the lines make this block and these answers
abbrev pub ImportsText : List ℕ → List ℕ → List ℕ → List LineAnswer → Type 0
ImportsText schema input block answers = (entries : List Entry) × ReadsSchema schema entries
    × ImportsLines entries input block answers

-- ---- what is written

-- These stand at the beginnings of the buffers, and what is after them is as it was.
pub record PutBoth (block : List ℕ) (answers : List LineAnswer) (old_bytes new_bytes : List ℕ)
    (old_answers new_answers : List LineAnswer) (count : Imported) : Type 0 where
  pub bytes : count.bytes ≡ length block
  pub lines : count.lines ≡ length answers
  pub bytes_fit : length block ≤ length old_bytes
  pub lines_fit : length answers ≤ length old_answers
  pub bytes_put : new_bytes ≡ block ++ drop (length block) old_bytes
  pub lines_put : new_answers ≡ answers ++ drop (length answers) old_answers

-- One of them is longer than its buffer, and both buffers are as they were.
pub record LackBoth (block : List ℕ) (answers : List LineAnswer) (old_bytes new_bytes : List ℕ)
    (old_answers new_answers : List LineAnswer) (bytes lines : ℕ) : Type 0 where
  pub measured : bytes ≡ length block
  pub counted : lines ≡ length answers
  pub larger : (length old_bytes < bytes) ⊎ (length old_answers < lines)
  pub same_bytes : new_bytes ≡ old_bytes
  pub same_answers : new_answers ≡ old_answers

-- A block and answers of which P holds are written, or their sizes are reported; or nothing is written for a
-- reason of which R holds, or for want of memory.
abbrev pub FillsBoth : (List ℕ → List LineAnswer → Type 0) → (BlockError → Type 0) → List ℕ → List ℕ
    → List LineAnswer → List LineAnswer → Result Imported BlockError → Type 0
FillsBoth P R old_bytes new_bytes old_answers new_answers (Ok count) =
    (block : List ℕ) × (answers : List LineAnswer) × P block answers
    × PutBoth block answers old_bytes new_bytes old_answers new_answers count
FillsBoth P R old_bytes new_bytes old_answers new_answers (Err (errors.TooSmall bytes lines)) =
    (block : List ℕ) × (answers : List LineAnswer) × P block answers
    × LackBoth block answers old_bytes new_bytes old_answers new_answers bytes lines
FillsBoth P R old_bytes new_bytes old_answers new_answers (Err errors.Memory) =
    (new_bytes ≡ old_bytes) × (new_answers ≡ old_answers)
FillsBoth P R old_bytes new_bytes old_answers new_answers (Err error) =
    R error × (new_bytes ≡ old_bytes) × (new_answers ≡ old_answers)

-- what a call returns that imports lines by these entries, and by the schema that a text describes
abbrev pub ImportsBy : List Entry → List ℕ → List ℕ → List ℕ → List LineAnswer → List LineAnswer
    → Result Imported BlockError → Type 0
ImportsBy entries input = FillsBoth (ImportsLines entries input) (λ error. ⊥)

abbrev pub ImportsInto : List ℕ → List ℕ → List ℕ → List ℕ → List LineAnswer → List LineAnswer
    → Result Imported BlockError → Type 0
ImportsInto schema input = FillsBoth (ImportsText schema input) (IsSchemaRefusal schema)

-- ---- for private clauses

abbrev pub PutsBoth : List ℕ → List LineAnswer → List ℕ → List ℕ → List LineAnswer → List LineAnswer
    → Result Imported BlockError → Type 0
PutsBoth block answers old_bytes new_bytes old_answers new_answers (Ok count) =
    PutBoth block answers old_bytes new_bytes old_answers new_answers count
PutsBoth block answers old_bytes new_bytes old_answers new_answers (Err (errors.TooSmall bytes lines)) =
    LackBoth block answers old_bytes new_bytes old_answers new_answers bytes lines
PutsBoth block answers old_bytes new_bytes old_answers new_answers (Err error) = ⊥

-- what becomes of a line by these rules
abbrev pub IsLenientOutcome : LineOutcome → Type 0
IsLenientOutcome (outcome.Stored size fault) = Unit {0}
IsLenientOutcome (outcome.Refused error) = IsLenient error
