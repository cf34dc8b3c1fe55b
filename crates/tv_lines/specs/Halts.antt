-- Why a run over lines broke off, seen from the source and from the sink: a read or a write failed with this
-- kind, or none did.
use Rattle.tv_base.specs.Stop.{Stop}
use Rattle.tv_base.specs.Stop.Stop.{Failed, Short}
use Rattle.tv_lines.specs.declared.errors.Halt.{Halt}
use Rattle.tv_lines.specs.declared.errors.Halt.TheVariants.{Read, Write}

abbrev pub source_stop : Halt → Stop ⊥
source_stop (Read kind) = Failed kind
source_stop _ = Short

abbrev pub sink_stop : Halt → Stop ⊥
sink_stop (Write kind) = Failed kind
sink_stop _ = Short

-- ---- for private clauses

-- a write failed
abbrev pub IsOfWriting : Halt → Type 0
IsOfWriting (Write kind) = Unit {0}
IsOfWriting _ = ⊥
