-- The pointer goes out of the handle with what is kept after it.
use Rattle.std.proofs.Common.{refl}
use Rattle.tv_blocks.proofs.Pointers.{passes}
use Rattle.tv_blocks.proofs.schema_handle.SchemaHandle.TheLaws as handle_laws
use Rattle.tv_blocks.proofs.schema_handle.SchemaHandle.into_kept.Code as code
use Rattle.tv_blocks.proofs.schema_handle.SchemaHandle.into_kept.Statement.{statement}
use Rattle.tv_blocks.specs.contracts.schema_handle.SchemaHandle.into_kept as f
use Rattle.tv_blocks.specs.contracts.schema_handle.SchemaHandle.{the_row}
use Rattle.tv_blocks.specs.contracts.kept.Kept.{the_row as kept_row}
use Rattle.tv_blocks.specs.contracts.schema_handle.SchemaMemory.{the_row as schema_row}
use base.Logic.{emp, id⊢}
use contract.Monad.{fact_i}
use denote.Exit.{yes}
use denote.Signature.{plain}
use denote.Triple.Walked.{Goes-dropped}

pub into_kept_spec : {M : Type 1} → statement M
into_kept_spec 𝓤 𝓛 𝓜 𝓡 wired =
    passes 𝓛 𝓜 𝓡 the_row (kept_row schema_row) yes (λ handle. handle.at) (λ handle. record { at = handle.at; value = handle.memory }) (λ handle. (tt, tt)) (λ handle. (tt, tt))
    (f.clauses 𝓛 𝓜.mem 𝓡.returns) _ _ f.Key.name (code.unfolded 𝓤 𝓛.H 𝓜 𝓡 wired) (Goes-dropped 𝓛 0 (plain (λ _. the_row)) yes (λ κs x w. refl))
    handle_laws.lowers.val_is (λ handle. id⊢ 𝓤 _) (λ handle g. fact_i 𝓤 _ (emp 𝓤) refl)
