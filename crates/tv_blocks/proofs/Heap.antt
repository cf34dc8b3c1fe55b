-- The allocator as the calls of a `Box` have it, and how it and a truth value are stored.
use Rattle.std.proofs.Common.{[], ◌∷◌, refl}
use Rattle.std.proofs.alloc.Global.TheLaws as global_laws
use Rattle.std.specs.Global.{Global}
use Rattle.std.specs.Prelude.{Bool, true, false, ◌&&◌, List}
use Rattle.std.specs.contracts.alloc.Global.{the_row as global_row}
use denote.Exit.{no}
use denote.Param.{arg, layout}
use denote.Param.Laws.{Laws, arg_laws}
use denote.RattleType.{RattleType}
use lib.Dec.{T}
use mir.Raw.{raw}
use mir.Syntax.{Dict, impl, tnil, tcons, dnil}
use mir.Val.{Val}

abbrev pub Heap : RattleType
Heap = arg (raw (layout global_row)) no global_row

abbrev pub heap_laws : Laws Heap
heap_laws = arg_laws (raw (layout global_row)) no global_row global_laws.the_row_laws refl

-- it needs no drop
abbrev pub heap_drop : Dict
heap_drop = impl ("tv_blocks::Destruct++none::drop" ∷ []) (tcons (layout Heap) tnil) dnil

abbrev pub heap_vals : Global → List Val
heap_vals alloc = global_laws.the_told.val alloc ∷ []

pub both : (x y : Bool) → T x → T y → T (x && y)
both true y t u = u
both false y t u = absurd t
