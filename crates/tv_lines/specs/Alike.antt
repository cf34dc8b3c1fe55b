-- What becomes of a line, as two imports of it say it, and what two calls over one block say.
use Rattle.std.specs.Prelude.{◌≡◌, ℕ, List, Option, Some, None, Result, Ok, Err, IsErr, count_by}
use Rattle.std.specs.Prelude.{string_bytes}
use Rattle.tv_doc.specs.Alike.{SayStrictlySame}
use Rattle.tv_lines.specs.WholeImports.{is_refused, is_stored, is_unsearchable}
use Rattle.tv_lines.specs.declared.errors.WorkError.{WorkError}
use Rattle.tv_lines.specs.declared.errors.WorkError.TheVariants as work
use Rattle.tv_lines.specs.declared.find.FindError.{FindError}
use Rattle.tv_lines.specs.declared.find.FindError.TheVariants as finding
use Rattle.tv_lines.specs.declared.find.Found.{Found}
use Rattle.tv_lines.specs.declared.import.LineOutcome.{LineOutcome}
use Rattle.tv_lines.specs.declared.import.LineOutcome.TheVariants as outcome
use Rattle.tv_lines.specs.declared.line_document.LineError.{LineError}
use Rattle.tv_lines.specs.declared.line_document.LineError.TheVariants.{Float, NoObject, NotUtf8, Refused}
use Rattle.tv_lines.specs.declared.line_document.LineError.TheVariants.{Unsearchable}
use Rattle.tv_lines.specs.declared.report.DocumentReport.{DocumentReport}
use Rattle.tv_store.specs.Alike.{IsDecidedError}
use Rattle.tv_store.specs.declared.block.RefusedDocument.{RefusedDocument}
use Rattle.tv_store.specs.declared.limits.LimitedReadError.{LimitedReadError}
use Rattle.tv_store.specs.declared.limits.LimitedReadError.TheVariants as limited

-- both errors say the same of a line, apart from the place where a text stops being an object, and from the
-- value in which a float stands
abbrev pub SaySameError : LineError → LineError → Type 0
SaySameError NotUtf8 NotUtf8 = Unit {0}
SaySameError (NoObject start fault) (NoObject other also) = string_bytes start ≡ string_bytes other
SaySameError (Float name json) (Float other also) = string_bytes name ≡ string_bytes other
SaySameError (Refused error) (Refused other) = SayStrictlySame error other
SaySameError (Unsearchable name why) (Unsearchable other also) = (string_bytes name ≡ string_bytes other)
    × (why ≡ also)
SaySameError error other = ⊥

-- neither call reports an error, or both errors say the same
abbrev pub SaySameErrors : Option LineError → Option LineError → Type 0
SaySameErrors None None = Unit {0}
SaySameErrors (Some error) (Some other) = SaySameError error other
SaySameErrors error other = ⊥

-- both outcomes say the same: how many bytes are stored and why they can't be searched, or why none are
abbrev pub SaySame : LineOutcome → LineOutcome → Type 0
SaySame (outcome.Stored size fault) (outcome.Stored other also) = (size ≡ other) × (fault ≡ also)
SaySame (outcome.Refused error) (outcome.Refused other) = SaySameError error other
SaySame said other = ⊥

-- as many of two lists of outcomes are of each kind
pub record AreCountedAlike (said also : List LineOutcome) : Type 0 where
  pub stored : count_by is_stored said ≡ count_by is_stored also
  pub unsearchable : count_by is_unsearchable said ≡ count_by is_unsearchable also
  pub refused : count_by is_refused said ≡ count_by is_refused also

-- ---- blocks

-- The bytes decide why a document is refused: no limit is passed, no read failed, and memory and room
-- sufficed.
abbrev pub IsDecided : LimitedReadError → Type 0
IsDecided (limited.Read error) = IsDecidedError error
IsDecided (limited.Limit passed) = ⊥

-- the bytes decide what testing a block returned
abbrev pub IsTestDecided : Result ℕ RefusedDocument → Type 0
IsTestDecided (Ok number) = Unit {0}
IsTestDecided (Err refused) = IsDecided refused.error

-- the same of printing one
abbrev pub IsWorkDecided : Result ℕ WorkError → Type 0
IsWorkDecided (Ok number) = Unit {0}
IsWorkDecided (Err (work.Read refused)) = IsDecided refused.error
IsWorkDecided (Err error) = ⊥

-- and of searching one
abbrev pub IsSearchDecided : {E : Type 0} → Result Found (FindError E) → Type 0
IsSearchDecided (Ok found) = Unit {0}
IsSearchDecided (Err (finding.Work (work.Read refused))) = IsDecided refused.error
IsSearchDecided (Err error) = ⊥

-- the same is returned and appended, and after an error the same bytes are left
pub record ArePrintedAlike (left other held second : List ℕ) (result twin : Result ℕ WorkError) : Type 0 where
  pub same : result ≡ twin
  pub appended : held ≡ second
  pub rest : IsErr result → left ≡ other

-- and the same reports are told
pub record AreSearchedAlike {E : Type 0} (left other held second : List ℕ) (IsTold : Type 0)
    (ended finished : List DocumentReport) (result twin : Result Found (FindError E)) : Type 0 where
  pub same : result ≡ twin
  pub appended : held ≡ second
  pub told : IsTold → ended ≡ finished
  pub rest : IsErr result → left ≡ other
