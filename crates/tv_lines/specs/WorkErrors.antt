-- Why the work on the documents of a block breaks off.
use Rattle.tv_base.specs.Stop.{Stop}
use Rattle.tv_base.specs.Stop.Stop.{Failed, Short}
use Rattle.tv_lines.specs.declared.errors.WorkError.{WorkError}
use Rattle.tv_lines.specs.declared.errors.WorkError.TheVariants as errors
use Rattle.tv_format.specs.InputError.{Refusal}
use Rattle.tv_store.specs.Projections.{refused_stop}

-- as its source sees it
abbrev pub source_stop : WorkError → Stop Refusal
source_stop (errors.Read error) = refused_stop error
source_stop _ = Short

-- and as its sink does
abbrev pub sink_stop : WorkError → Stop Refusal
sink_stop (errors.Write kind) = Failed kind
sink_stop _ = Short

-- ---- for private clauses

-- a write failed, or memory was refused
abbrev pub IsOfPrinting : WorkError → Type 0
IsOfPrinting (errors.Write kind) = Unit {0}
IsOfPrinting errors.Memory = Unit {0}
IsOfPrinting _ = ⊥
