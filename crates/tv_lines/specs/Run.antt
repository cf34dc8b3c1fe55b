-- What a run over an input writes.
use Rattle.std.specs.Prelude.{◌≡◌, ◌⊎◌, ℕ, List, [], ◌∷◌, ◌++◌, Result, Ok, Err}
use Rattle.tv_base.specs.ReadsAs.{TakesMost}
use Rattle.tv_base.specs.Sink.{IsPrefix}
use Rattle.tv_base.specs.Source.{Failures}
use Rattle.tv_base.specs.Stop.{CountsStop}
use Rattle.tv_lines.specs.Answers.{ReadsSchema, SchemaRefusal, AreAnswers}
use Rattle.tv_lines.specs.Halts.{sink_stop, source_stop}
use Rattle.tv_lines.specs.Lines.{FirstLine, Lines}
use Rattle.tv_lines.specs.declared.errors.Halt.{Halt}
use Rattle.tv_lines.specs.declared.errors.Halt.TheVariants.{TooLong}
use Rattle.tv_lines.specs.declared.runs.RunEnd.{RunEnd}
use Rattle.tv_lines.specs.declared.runs.RunEnd.TheVariants.{Done, BadSchema, Broken}
use Rattle.tv_field.specs.Entry.{Entry}

-- such an answer, and a line feed
abbrev pub IsEnded : (List ℕ → Type 0) → List ℕ → Type 0
IsEnded P text = (answer : List ℕ) × P answer × (text ≡ answer ++ 10 ∷ [])

-- the answers of the lines of an input
abbrev pub AnswersOf : List Entry → List ℕ → List ℕ → Type 0
AnswersOf schema input text = (lines : List (List ℕ)) × Lines input lines × AreAnswers schema lines text

-- the first line describes a schema, and the text is the answers of the other lines
pub record DoneText (input text : List ℕ) : Type 0 where
  pub line : List ℕ
  pub rest : List ℕ
  pub schema : List Entry
  pub first : FirstLine input line rest
  pub reads : ReadsSchema line schema
  pub answers : AnswersOf schema rest text

-- the first line is refused, and the text is its answer
pub record BadSchemaText (input text : List ℕ) : Type 0 where
  pub line : List ℕ
  pub rest : List ℕ
  pub first : FirstLine input line rest
  pub refused : IsEnded (SchemaRefusal line) text

-- a beginning of such a text
abbrev pub PrefixOf : (List ℕ → Type 0) → List ℕ → Type 0
PrefixOf P text = (whole : List ℕ) × P whole × IsPrefix text whole

-- a beginning of what a run over the input can write
abbrev pub BrokenText : List ℕ → List ℕ → Type 0
BrokenText input text = PrefixOf (λ whole. DoneText input whole ⊎ BadSchemaText input whole) text

-- such a text was written after what was held
abbrev pub WritesText : (List ℕ → Type 0) → List ℕ → List ℕ → Type 0
WritesText P old new = (text : List ℕ) × P text × (new ≡ old ++ text)

-- the run wasn't broken off
abbrev pub IsWhole : RunEnd → Type 0
IsWhole Done = Unit {0}
IsWhole BadSchema = Unit {0}
IsWhole Broken = ⊥

-- what is written of an input by a run that ends so
abbrev pub EndsWith : RunEnd → List ℕ → List ℕ → List ℕ → Type 0
EndsWith Done input old new = WritesText (DoneText input) old new
EndsWith BadSchema input old new = WritesText (BadSchemaText input) old new
EndsWith Broken input old new = WritesText (BrokenText input) old new

-- what is written of an input by a run that may break off with an error
abbrev pub RunsOver : List ℕ → List ℕ → List ℕ → Result RunEnd Halt → Type 0
RunsOver input old new (Ok end) = EndsWith end input old new
RunsOver input old new (Err _) = EndsWith Broken input old new

-- A run broke off for some reason: a read or a write failed exactly where the reason says so, with its kind,
-- and `TooLong` comes after the most bytes that are counted.
pub record Halted (read new_read written new_written : Failures) (is_known : Type 0)
    (left new_left : List ℕ) : Type 0 where
  pub halt : Halt
  pub source : CountsStop (source_stop halt) read new_read
  pub sink : CountsStop (sink_stop halt) written new_written
  pub too_long : is_known → halt ≡ TooLong → TakesMost left new_left

-- why a run ended so: where it is whole, no read and no write failed
abbrev pub HasReason : RunEnd → Failures → Failures → Failures → Failures → Type 0 → List ℕ → List ℕ → Type 0
HasReason Broken read new_read written new_written is_known left new_left =
    Halted read new_read written new_written is_known left new_left
HasReason _ read new_read written new_written is_known left new_left =
    (new_read ≡ read) × (new_written ≡ written)
