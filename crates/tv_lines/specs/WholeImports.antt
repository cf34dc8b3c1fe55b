-- What becomes of all lines of an input.
use Rattle.std.specs.Prelude.{◌≡◌, ◌≢◌, ◌+◌, ◌-◌, ◌^◌, ℕ, Bool, true, false, List, [], ◌∷◌, ◌++◌, None, Some}
use Rattle.std.specs.Prelude.{Result, Ok, Err, count_by, length}
use Rattle.tv_base.specs.Stop.{Stop}
use Rattle.tv_base.specs.Stop.Stop.{Short}
use Rattle.tv_lines.specs.Halts.{sink_stop, source_stop}
use Rattle.tv_lines.specs.Importing.{ImportsNext, IsOutcome, LeavesBegun}
use Rattle.tv_lines.specs.declared.import.ImportRules.{ImportRules}
use Rattle.tv_lines.specs.declared.import.LineOutcome.{LineOutcome}
use Rattle.tv_lines.specs.declared.import.LineOutcome.TheVariants.{Refused, Stored}
use Rattle.tv_lines.specs.declared.imports.ImportLinesError.{ImportLinesError}
use Rattle.tv_lines.specs.declared.imports.ImportLinesError.TheVariants as errors
use Rattle.tv_lines.specs.declared.imports.Imported.{Imported}
use Rattle.tv_lines.specs.declared.report.LineReport.{LineReport}
use Rattle.tv_field.specs.Entry.{Entry}
use Rattle.tv_lines.specs.Lines.{FirstLine, Lines}

-- these are the first lines of an input, and this is what stands after them
pub data FirstLines : List ℕ → List (List ℕ) → List ℕ → Type 0 where
  none_first : {input : List ℕ} → FirstLines input [] input
  one_first : {input line rest behind : List ℕ} {lines : List (List ℕ)} → input ≢ []
      → FirstLine input line rest → FirstLines rest lines behind → FirstLines input (line ∷ lines) behind

-- what becomes of each line, and what is stored of all
pub data Outcomes (schema : List Entry) (rules : ImportRules) : List (List ℕ) → List ℕ → List LineOutcome
    → Type 0 where
  no_outcomes : Outcomes schema rules [] [] []
  next_outcome : {line block : List ℕ} {said : LineOutcome} {lines : List (List ℕ)} {outcomes : List
      LineOutcome} (text : List ℕ)
      → IsOutcome schema rules line text said → Outcomes schema rules lines block outcomes
      → Outcomes schema rules (line ∷ lines) (text ++ block) (said ∷ outcomes)

-- the reports of lines with these outcomes: each with its number, of which this is the first
abbrev pub numbered : ℕ → List LineOutcome → List LineReport
numbered first [] = []
numbered first (said ∷ more) = record { line = first; outcome = said } ∷ numbered (first + 1) more

abbrev pub is_stored : LineOutcome → Bool
is_stored (Stored size fault) = true
is_stored (Refused error) = false

abbrev pub is_refused : LineOutcome → Bool
is_refused (Stored size fault) = false
is_refused (Refused error) = true

-- it is stored, and can't be searched
abbrev pub is_unsearchable : LineOutcome → Bool
is_unsearchable (Stored size None) = false
is_unsearchable (Stored size (Some why)) = true
is_unsearchable (Refused error) = false

-- Of the lines, one after the other, a sink that held `old` holds what is stored, and where it is known what
-- was told, it is what became of each.
pub record ImportsEach (schema : List Entry) (rules : ImportRules) (lines : List (List ℕ)) (old new : List ℕ)
    (IsTold : Type 0) (begun ended : List LineReport) : Type 0 where
  pub outcomes : List LineOutcome
  pub block : List ℕ
  pub each : Outcomes schema rules lines block outcomes
  pub held : new ≡ old ++ block
  pub told : IsTold → ended ≡ begun ++ numbered 1 outcomes

-- All lines of the input were imported, and `said` has the number of each kind.
pub record ImportsAll (schema : List Entry) (rules : ImportRules) (input old new : List ℕ) (IsTold : Type 0)
    (begun ended : List LineReport) (said : Imported) : Type 0 where
  pub lines : List (List ℕ)
  pub all : Lines input lines
  pub imported : ImportsEach schema rules lines old new IsTold begun ended
  pub stored : said.stored ≡ count_by is_stored imported.outcomes
  pub unsearchable : said.unsearchable ≡ count_by is_unsearchable imported.outcomes
  pub refused : said.refused ≡ count_by is_refused imported.outcomes

-- What a sink that held `old` holds of the next line, before which there were `number`: maybe a beginning of
-- its document where that wasn't stored, and all of it where only the report failed.
abbrev pub LeavesLine : {E : Type 0} → List Entry → ImportRules → List ℕ → ℕ → List ℕ → List ℕ
    → ImportLinesError E → Type 0
LeavesLine schema rules rest number old new (errors.Import error) = LeavesBegun schema rules rest old new
LeavesLine schema rules rest number old new (errors.Report error) =
    (behind : List ℕ) × (text : List ℕ) × (said : LineOutcome)
    × ImportsNext schema rules rest behind text (Some said) × (new ≡ old ++ text)
LeavesLine schema rules rest number old new errors.TooMany = (new ≡ old) × (number ≡ 2 ^ 64 - 1)

-- The first lines of the input were imported, and what stands after them was not, or not whole.
pub record StopsImport {E : Type 0} (schema : List Entry) (rules : ImportRules) (input old new : List ℕ)
    (IsTold : Type 0) (begun ended : List LineReport) (error : ImportLinesError E) : Type 0 where
  pub lines : List (List ℕ)
  pub rest : List ℕ
  pub first : FirstLines input lines rest
  pub middle : List ℕ
  pub imported : ImportsEach schema rules lines old middle IsTold begun ended
  pub next : LeavesLine schema rules rest (length lines) middle new error

-- The input was imported, whole or up to the line at which that broke off.
abbrev pub ImportsInput : {E : Type 0} → List Entry → ImportRules → List ℕ → List ℕ → List ℕ → Type 0
    → List LineReport → List LineReport → Result Imported (ImportLinesError E) → Type 0
ImportsInput schema rules input old new IsTold begun ended (Ok said) =
    ImportsAll schema rules input old new IsTold begun ended said
ImportsInput schema rules input old new IsTold begun ended (Err error) =
    StopsImport schema rules input old new IsTold begun ended error

-- why an import of lines broke off, as its source and its sink see it
abbrev pub lines_source_stop : {E : Type 0} → ImportLinesError E → Stop ⊥
lines_source_stop (errors.Import error) = source_stop error
lines_source_stop _ = Short

abbrev pub lines_sink_stop : {E : Type 0} → ImportLinesError E → Stop ⊥
lines_sink_stop (errors.Import error) = sink_stop error
lines_sink_stop _ = Short

-- ---- for private clauses

-- one line more is counted
abbrev pub CountsOutcome : Imported → LineOutcome → Imported → Type 0
CountsOutcome old (Stored size None) new = (new.stored ≡ old.stored + 1)
    × (new.unsearchable ≡ old.unsearchable) × (new.refused ≡ old.refused)
CountsOutcome old (Stored size (Some why)) new = (new.stored ≡ old.stored + 1)
    × (new.unsearchable ≡ old.unsearchable + 1) × (new.refused ≡ old.refused)
CountsOutcome old (Refused error) new = (new.stored ≡ old.stored) × (new.unsearchable ≡ old.unsearchable)
    × (new.refused ≡ old.refused + 1)
