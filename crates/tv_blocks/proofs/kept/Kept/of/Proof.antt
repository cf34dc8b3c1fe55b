-- The box is made a pointer, which is stored with the right to free its block.
use Rattle.std.proofs.Common.{[], ◌∷◌, ◌≡◌, refl, ap}
use Rattle.std.proofs.alloc.Global.TheLaws as global_laws
use Rattle.std.proofs.boxed.Box.into_raw.Met.{met}
use Rattle.std.proofs.impls.GlobalAllocator.TheImpl.Met.{passed}
use Rattle.std.proofs.raw_atomic.Walks.{proved, leaves}
use Rattle.std.specs.Box.Ownership.{box_owns}
use Rattle.std.specs.Global.{Global}
use Rattle.std.specs.Prelude.{Some}
use Rattle.std.specs.Ptr.{Ptr}
use Rattle.std.specs.contracts.alloc.Global.{the_row as global_row}
use Rattle.std.specs.contracts.boxed.Box as box
use Rattle.std.specs.contracts.boxed.Box.into_raw as g
use Rattle.std.specs.contracts.impls.GlobalAllocator.TheImpl.{ghosts, dict}
use Rattle.tv_blocks.proofs.Boxes.{made, boxed_lawful}
use Rattle.tv_blocks.proofs.Destruct++none.drop.Code as none_code
use Rattle.tv_blocks.proofs.Heap.{Heap, heap_laws, heap_drop}
use Rattle.tv_blocks.proofs.Pointers.{pointer_val, pointer_vals, pointer_typed}
use Rattle.tv_blocks.proofs.kept.Kept.of.Code as code
use Rattle.tv_blocks.proofs.kept.Kept.of.Statement.{statement}
use Rattle.tv_blocks.specs.contracts.kept.Kept.{the_row}
use Rattle.tv_blocks.specs.contracts.kept.Kept.of as f
use base.Fml.{ftrue, flft}
use base.Fraction.{full_share}
use base.Logic.{emp, id⊢}
use contract.BorrowLft.{◌⊑◌, ⊑_static}
use contract.Monad.{fact, fact_i}
use contract.Running.{tables}
use denote.Exit.{no}
use denote.Param.{param, bounded}
use denote.Param.Laws.{param_laws, row_laws}
use denote.Param.NoDrop.{glues}
use denote.RawPtr.{RawPtr, rawptr_Lawful}
use denote.Signature.{plain}
use denote.Steps.{only, nothing}
use denote.Struct.Laws.{RawPtr-laws}
use denote.Struct.Owning.{Owning, row}
use denote.Struct.OwningLaws.{Laws, vals, tells}
use denote.Triple.Call.{calls_at}
use denote.Triple.Clauses.{lasts}
use denote.Triple.Spec.{triple_of}
use denote.Triple.Table.{framed}
use denote.Triple.Walked.{Stays, stay_dropped, Goes-dropped, walk_of}
use mir.MapTy.{inst_fn}
use mir.Syntax.{a_type, dcons, dnil}
use types.ByLocal.{alloc_all, pass_all, free_all, look_at, get, sets, lands_as}
use types.Kit.{fjoin, fpack, ‵, raw, ◌⊛◌, later, some, await, pick, feq_l, ◌$◌, ◌∵◌, !, qed, by, drop, keep, move, use0, use1, split, join}
use types.Part.{agg}
use types.Run.{enter, of_opd, no_more, and_then, returns}

pub of_spec : {M : Type 1} → statement M
unfolding none_code.code
of_spec 𝓤 𝓛 𝓜 𝓡 wired T L drops glue =
    let R = param 0 T in let LR = param_laws 0 T L in let Boxed : Owning = box.the_type R global_row ghosts in let laws : Laws Boxed = (RawPtr-laws, (row_laws global_row global_laws.the_row_laws global_laws.the_told, tt)) in
    let inst = bounded (a_type ∷ []) (T, tt) (dcons drops dnil) in let E = f.ended T drops in let stayed : Stays E.signature.params E.kept = (stay_dropped _ no, tt) in
    let c = f.clauses T drops 𝓛 𝓜.mem 𝓡.returns in let W = walk_of 𝓛 E stayed c in
    proved 𝓛 E stayed c 𝓜 𝓡 (Goes-dropped 𝓛 1 (plain (λ _. row Boxed)) no (λ κs x w. refl), tt)
    (f.Key.name inst) (inst_fn inst code.function) (code.unfolded 𝓤 𝓛.H 𝓜 𝓡 wired (T, tt) drops) (λ κs. (vals Boxed laws, tt)) (λ κs. (tells Boxed laws, tt)) (λ κs qs bounds a n are.
    let vs = vals Boxed laws a.0 in let y : W.Ghost = ((κs, qs, bounds, a, (vs, tt)), tt) in
    let called = g.ended T Heap ghosts dict heap_drop drops in
    let G = triple_of 𝓛 (g.signature T Heap ghosts dict heap_drop drops) (g.spec T Heap ghosts dict heap_drop drops 𝓛 𝓜.mem 𝓡.returns) in
    let met_here = met 𝓤 𝓛 𝓜 𝓡 (code.calls-std_alloc::boxed::Box::into_raw 𝓡.env wired) T Heap L heap_laws ghosts dict heap_drop drops
    (passed 𝓡.env (code.calls-std_heap::GlobalAllocator::allocate 𝓡.env wired) (code.calls-std_heap::GlobalAllocator::deallocate 𝓡.env wired)
    (code.calls-std_heap::GlobalAllocator::grow 𝓡.env wired) (code.calls-std_heap::GlobalAllocator::shrink 𝓡.env wired) _ 𝓤 𝓛 𝓜 𝓡)
    (glues "tv_blocks::Destruct++none::drop" 𝓡.env (code.calls-tv_blocks::Destruct++none::drop 𝓡.env wired) Heap heap_laws _ 𝓤 𝓛 𝓜 𝓡) glue in
    let typed = (boxed_lawful 𝓛 R LR).typed a.0 vs are.0 in
    let z : G.Ghost = (((κs.0, ([], tt)), (qs.0, (full_share, tt)), tt, (a.0, tt), (vs, tt)), tt) in
    let toks = ‵ (flft κs.0 qs.0) ⊛ ‵ ftrue in let within = raw (fact 𝓤 (κs.0 ⊑ T.lives)) in
    qed 𝓛 ((toks ⊛ ‵ ((row Boxed).own_val a.0 vs) ⊛ ‵ ftrue) ∷ (within ⊛ ‵ ftrue) ∷ []) ∵ split ! $ split ! $ move ! (2 ∷ []) $ split ! $ move ! (4 ∷ []) $ split ! $ keep ! (2 ∷ 4 ∷ 0 ∷ []) $
    enter ! _ _ _ _ _ $ alloc_all ! (λ l. pass_all ! refl typed $
    sets ! (of_opd ! (get ! refl)) refl typed.0 $
    -- [the box; the lifetime; that the type outlives it]
    nothing ! $ move ! (1 ∷ 0 ∷ []) $ join ! $
    nothing ! $ use0 𝓛 (‵ (flft [] full_share)) (𝓛.lfts.lft-nil full_share) $ join ! $ move ! (2 ∷ 0 ∷ []) $ join ! $ join ! $
    nothing ! $ use0 𝓛 (raw (fact 𝓤 ([] ⊑ []))) (fact_i 𝓤 ([] ⊑ []) (emp 𝓤) (⊑_static [])) $ join ! $ move ! (2 ∷ 0 ∷ []) $ join ! $ move ! (1 ∷ 0 ∷ []) $ join ! $
    use1 𝓛 (raw (G.pre z)) (id⊢ 𝓤 _) $
    calls_at ! (framed 𝓤 𝓛.H 𝓜 (tables 𝓤 𝓛.H 𝓜 𝓡 𝓡.env)) G met_here z (and_then ! (get ! refl) (no_more !)) (λ v.
    use1 𝓛 (later (some (λ (p : Ptr). ((‵ (flft κs.0 qs.0) ⊛ ‵ (flft [] full_share) ⊛ ‵ ftrue) ⊛ ‵ (RawPtr.own_val p (v ∷ []))) ⊛
    some (λ (ws : (Unit {0} × (Unit {0} × Unit {0})) × Unit {0}). ‵ (lasts called z.0.0 z.0.3 ws) ⊛ ‵ (box_owns (ghosts.dealloc_token a.0.alloc) R p a.0.value))))) (id⊢ 𝓤 _) $
    await ! tt $ pick ! (λ p. split ! $ split ! $ split ! $ move ! (1 ∷ []) $ drop ! $ move ! (1 ∷ []) $ feq_l ! (λ is_p. move ! (1 ∷ []) $ pick ! (λ ws. split ! $ drop ! $
    lands_as ! (ap only is_p) refl ((rawptr_Lawful 𝓛).typed p _ refl).0 $
    sets ! (agg ! (and_then ! (get ! refl) (no_more !))) refl (pointer_typed p) $ returns ! (look_at ! 0 refl) $ free_all ! refl $
    fpack ! Global (λ heap. box_owns (ghosts.dealloc_token heap) R p a.0.value) a.0.alloc $
    let made_of : (the_row R).Denot = record { at = p; value = Some a.0.value } in
    use1 𝓛 (‵ ((the_row R).own_val made_of (pointer_vals p))) (made 𝓛 R p (Some a.0.value)) $
    use0 𝓛 (raw (fact 𝓤 (made_of.value ≡ Some a.0.value))) (fact_i 𝓤 (made_of.value ≡ Some a.0.value) (emp 𝓤) refl) $
    nothing ! $ move ! (3 ∷ 0 ∷ []) $ join ! $ nothing ! $ nothing ! $ fjoin ! $
    keep ! (1 ∷ 0 ∷ 3 ∷ 2 ∷ []) $ by ! (leaves 𝓛 E stayed c y (pointer_val p) made_of (tt, tt) (tt, tt))))))))
