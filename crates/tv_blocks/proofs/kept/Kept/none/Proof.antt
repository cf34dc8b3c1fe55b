-- The struct is made of null alone, which is all that is owned where no value is kept.
use Rattle.std.proofs.Common.{[], ◌∷◌, ◌≡◌, refl}
use Rattle.std.proofs.raw_atomic.Walks.{proved, leaves}
use Rattle.std.specs.Prelude.{None}
use Rattle.std.specs.Ptr.{Ptr, null_ptr}
use Rattle.tv_blocks.proofs.Boxes.{made}
use Rattle.tv_blocks.proofs.Pointers.{pointer_val, pointer_vals, pointer_typed}
use Rattle.tv_blocks.proofs.kept.Kept.none.Code as code
use Rattle.tv_blocks.proofs.kept.Kept.none.Statement.{statement}
use Rattle.tv_blocks.specs.contracts.kept.Kept.{the_row}
use Rattle.tv_blocks.specs.contracts.kept.Kept.none as f
use base.Fml.{flft, ftrue}
use base.Logic.{emp}
use contract.Monad.{fact, fact_i}
use denote.Param.{param, layouts}
use denote.Steps.{nothing}
use denote.Triple.Walked.{walk_of}
use mir.MapTy.{inst_fn}
use mir.Syntax.{a_type}
use types.ByLocal.{alloc_all, pass_all, free_all, look_at, sets}
use types.Kit.{‵, raw, ◌⊛◌, ◌$◌, ◌∵◌, !, qed, by, keep, split, use0, use1, feq_i}
use types.Part.{agg}
use types.Run.{enter, lit, no_more, and_then, returns}

pub none_spec : {M : Type 1} → statement M
none_spec 𝓤 𝓛 𝓜 𝓡 wired T L =
    let R = param 0 T in let inst = layouts (a_type ∷ []) (T, tt) in let c = f.clauses T 𝓛 𝓜.mem 𝓡.returns in let W = walk_of 𝓛 (f.ended T) tt c in
    proved 𝓛 (f.ended T) tt c 𝓜 𝓡 tt (f.Key.name inst) (inst_fn inst code.function) (code.unfolded 𝓤 𝓛.H 𝓜 𝓡 wired (T, tt)) (λ κs. tt) (λ κs. tt) (λ κs qs bounds a n are.
    let y : W.Ghost = ((κs, qs, bounds, a, tt), tt) in let none : (the_row R).Denot = record { at = null_ptr; value = None } in
    qed 𝓛 (((‵ (flft κs.0 qs.0) ⊛ ‵ ftrue) ⊛ ‵ ftrue) ∷ raw ((c κs a).requires n) ∷ []) ∵ split ! $ keep ! (0 ∷ []) $
    enter ! _ _ _ _ _ $ alloc_all ! (λ l. pass_all ! refl tt $
    sets ! (agg ! (and_then ! (lit ! tt) (no_more !))) refl (pointer_typed null_ptr) $ returns ! (look_at ! 0 refl) $ free_all ! refl $
    use0 𝓛 (raw (fact 𝓤 (none.value ≡ None))) (fact_i 𝓤 (none.value ≡ None) (emp 𝓤) refl) $
    feq_i ! Ptr null_ptr null_ptr refl $ use1 𝓛 (‵ ((the_row R).own_val none (pointer_vals null_ptr))) (made 𝓛 R null_ptr None) $ nothing ! $
    keep ! (3 ∷ 0 ∷ 1 ∷ 2 ∷ []) $ by ! (leaves 𝓛 (f.ended T) tt c y (pointer_val null_ptr) none tt tt)))
