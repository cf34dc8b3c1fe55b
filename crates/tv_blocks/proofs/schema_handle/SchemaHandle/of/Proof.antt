-- The pointer goes into the handle with what is kept after it.
use Rattle.tv_blocks.proofs.schema_handle.SchemaMemory.TheLaws as schema_laws
use Rattle.std.proofs.Common.{refl}
use Rattle.tv_blocks.proofs.Pointers.{passes}
use Rattle.tv_blocks.proofs.schema_handle.SchemaHandle.of.Code as code
use Rattle.tv_blocks.proofs.schema_handle.SchemaHandle.of.Statement.{statement}
use Rattle.tv_blocks.proofs.kept.Kept.TheLaws as kept_laws
use Rattle.tv_blocks.specs.contracts.schema_handle.SchemaHandle.of as f
use Rattle.tv_blocks.specs.contracts.schema_handle.SchemaHandle.{the_row}
use Rattle.tv_blocks.specs.contracts.kept.Kept.{the_row as kept_row}
use Rattle.tv_blocks.specs.contracts.schema_handle.SchemaMemory.{the_row as schema_row}
use base.Logic.{emp, id⊢}
use contract.Monad.{fact_i}
use denote.Exit.{no}
use denote.Signature.{plain}
use denote.Triple.Walked.{Goes-dropped}

pub of_spec : {M : Type 1} → statement M
of_spec 𝓤 𝓛 𝓜 𝓡 wired =
    passes 𝓛 𝓜 𝓡 (kept_row schema_row) the_row no (λ kept. kept.at) (λ kept. record { at = kept.at; memory = kept.value }) (λ kept. (tt, tt)) (λ kept. (tt, tt))
    (f.clauses 𝓛 𝓜.mem 𝓡.returns) _ _ f.Key.name (code.unfolded 𝓤 𝓛.H 𝓜 𝓡 wired) (Goes-dropped 𝓛 0 (plain (λ _. kept_row schema_row)) no (λ κs x w. refl))
    (kept_laws.lowers schema_row schema_laws.the_row_laws).val_is (λ kept. id⊢ 𝓤 _) (λ kept g. fact_i 𝓤 _ (emp 𝓤) refl)
