-- A pointer with what is kept after it, and the boxes that it comes from.
use Rattle.std.proofs.Common.{[], ◌∷◌, refl}
use Rattle.std.proofs.alloc.Global.TheLaws as global_laws
use Rattle.std.proofs.boxed.Box.TheLaws as box_laws
use Rattle.std.specs.Prelude.{List, Option}
use Rattle.std.specs.Ptr.{Ptr}
use Rattle.std.specs.contracts.alloc.Global.{the_row as global_row}
use Rattle.std.specs.contracts.boxed.Box as box
use Rattle.std.specs.contracts.impls.GlobalAllocator.TheImpl.{ghosts}
use Rattle.tv_blocks.proofs.Pointers.{pointer_vals}
use Rattle.tv_blocks.specs.Kept.{keeps}
use Rattle.tv_blocks.specs.contracts.kept.Kept.{the_row, the_type}
use base.Logic.{ent}
use denote.Laws.{Lawful}
use denote.Param.Laws.{Laws}
use denote.RattleType.{RattleType, Valss}
use denote.RawPtr.{rawptr_vals}
use denote.Steps.{nothing}
use denote.Struct.Owning.{shape}
use denote.Struct.Struct.{within}
use mir.Val.{Val}
use seplogic.Ra.Ura.{Ura}
use types.Kit.{‵, ◌$◌, ◌∵◌, !, qed, done, fjoin, fpack, feq_i}
use types.Logic.{Logic, sem}

module _ {M : Type 1} {𝓤 : Ura M} (𝓛 : Logic 𝓤) (R : RattleType) where
  pub made : (p : Ptr) (value : Option R.Denot) → ent 𝓤 (sem 𝓛 (keeps R p value)) (sem 𝓛 ((the_row R).own_val (record { at = p; value = value }) (pointer_vals p)))
  made p value =
      qed 𝓛 (‵ (keeps R p value) ∷ []) ∵ nothing ! $ feq_i ! (List Val) (rawptr_vals p) (rawptr_vals p) refl $ fjoin ! $
      feq_i ! (List Val) (pointer_vals p) (pointer_vals p) refl $ fjoin ! $
      fpack ! (Valss (shape (the_type R)).fields) (within (shape (the_type R)) (p, tt) (pointer_vals p)) (rawptr_vals p, tt) $ fjoin ! $ done !

  pub boxed_lawful : Laws R → Lawful 𝓛 (box.the_row R global_row ghosts)
  boxed_lawful L = (box_laws.the_field_loose R global_row ghosts L global_laws.the_row_laws).lawful 𝓛
