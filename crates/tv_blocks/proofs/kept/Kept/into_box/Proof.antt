-- Null is no box. From any other pointer the box is made with the right to free its block.
use Rattle.std.proofs.Common.{ℕ, [], ◌∷◌, refl, lit<, ap, ◌≡◌, subst}
use Rattle.std.proofs.GlobalToken.{dealloc_token-Testable}
use Rattle.std.proofs.VecSteps.Shapes.{after}
use Rattle.std.proofs.alloc.Global.TheLaws as global_laws
use Rattle.std.proofs.boxed.Box.from_raw.Met.{met}
use Rattle.std.proofs.impls.GlobalAllocator.TheImpl.Met.{passed}
use Rattle.std.proofs.option.Made.{Some-of, none_of}
use Rattle.std.proofs.raw_atomic.Walks.{proved, leaves}
use Rattle.std.specs.Box.Ownership.{box_owns}
use Rattle.std.specs.Global.{Box, Global}
use Rattle.std.specs.Option.{option_map}
use Rattle.std.specs.Prelude.{true, List, Option, None, Some}
use Rattle.std.specs.Ptr.{Ptr, block_ptr, null_ptr}
use Rattle.std.specs.contracts.alloc.Global.{the_row as global_row}
use Rattle.std.specs.contracts.boxed.Box.{the_row as box_row}
use Rattle.std.specs.contracts.boxed.Box.from_raw as g
use Rattle.std.specs.contracts.impls.GlobalAllocator.TheImpl.{ghosts, dict}
use Rattle.std.specs.contracts.option.Option.{the_row as option_row}
use Rattle.tv_blocks.proofs.Boxes.{boxed_lawful}
use Rattle.tv_blocks.proofs.Destruct++none.drop.Code as none_code
use Rattle.tv_blocks.proofs.Heap.{Heap, heap_laws, heap_drop, heap_vals, both}
use Rattle.tv_blocks.proofs.Pointers.{pointer_val, pointer_vals, pointer_typed}
use Rattle.tv_blocks.proofs.kept.Kept.TheLaws as kept_laws
use Rattle.tv_blocks.proofs.kept.Kept.into_box.Code as code
use Rattle.tv_blocks.proofs.kept.Kept.into_box.Statement.{statement}
use Rattle.tv_blocks.specs.Kept.{keeps}
use Rattle.tv_blocks.specs.contracts.kept.Kept.{the_row}
use Rattle.tv_blocks.specs.contracts.kept.Kept.into_box as f
use base.Fml.{Lft, Share, flft, ftrue}
use base.Fraction.{full_share}
use base.Logic.{emp, id⊢, guard_i, SProp, ent}
use contract.BorrowLft.{◌⊑◌, ⊑_static}
use contract.Monad.{fact, fact_i, fact_use}
use contract.Running.{Running, tables}
use denote.Exit.{yes, no}
use denote.Laws.{Is, shows}
use denote.Memory.{lone}
use denote.Param.{param, layouts}
use denote.Param.Laws.{Laws, param_laws}
use denote.Param.NoDrop.{glues}
use denote.RattleType.{RattleType}
use denote.RawPtr.{rawptr_vals, tests_null, in_a_block, lies_at, Testable}
use denote.Signature.{plain}
use denote.Steps.{heard, peeks, nothing}
use denote.Triple.Call.{calls_at_last}
use denote.Triple.Clauses.{lasts, Clauses, Ended}
use denote.Triple.Spec.{triple_of}
use denote.Triple.Table.{framed}
use denote.Triple.Walked.{Stays, stay_dropped, Goes-dropped, walk_of}
use mir.MapTy.{inst_fn}
use mir.Raw.{raw as raw_type}
use mir.Syntax.{Args, Fn, Ty, a_type}
use mir.Val.{Val, of_list}
use prog.Model.{Model}
use prog.Wired.{Wired}
use prog.Wp.{WpFn}
use seplogic.Ra.Ura.{Ura}
use types.ByLocal.{lands_last, alloc_all, pass_all, free_all, look_at, get, get_in, sets, env}
use types.Kit.{fpick, later, some, await, pick, feq_i, given, learn, fsplit, fjoin, rewrite, ‵, raw, ◌⊛◌, ⋆, prop, at_ret, ◌$◌, ◌∵◌, !, qed, by, drop, use0, use1, keep, move, split, join, feq_l, regoal}
use types.Logic.{Logic}
use types.Match.{live}
use types.Part.{agg, whole, sub}
use types.Run.{blocks, enter, of_opd, bin, lit, no_more, and_then, fld, stop, first, branches, skips, exec, returns, returns_within}

module _ {M : Type 1} (𝓤 : Ura M) (𝓛 : Logic 𝓤) (𝓜 : Model 𝓤 𝓛.H) (𝓡 : Running 𝓤 𝓛.H 𝓜) (wired : Wired 𝓡.env code.code) (T : RattleType) (L : Laws T) where
  abbrev R : RattleType
  R = param 0 T

  abbrev Boxed : RattleType
  Boxed = box_row R global_row ghosts

  abbrev inst : Args
  inst = layouts (a_type ∷ []) (T, tt)

  abbrev function : Fn
  function = inst_fn inst code.function

  abbrev E : Ended
  E = f.ended T

  abbrev stayed : Stays E.signature.params E.kept
  stayed = (stay_dropped _ no, (stay_dropped _ yes, tt))

  abbrev Γ : Clauses 𝓤 E
  Γ = f.clauses T 𝓛 𝓜.mem 𝓡.returns

  module _ (κ : Lft) (q : Share) (alloc : Global) where
    abbrev bound : Ptr → Option R.Denot → (walk_of 𝓛 E stayed Γ).Ghost
    bound at value = (((κ, tt), (q, tt), tt, (record { at = at; value = value }, (alloc, tt)), (pointer_vals at, (heap_vals alloc, tt))), tt)

    abbrev post : Ptr → Option R.Denot → Val → SProp 𝓤
    post at value = (walk_of 𝓛 E stayed Γ).post (bound at value)

    abbrev Ends : Ptr → Option R.Denot → SProp 𝓤
    Ends at value = WpFn 𝓤 𝓛.H (tables 𝓤 𝓛.H 𝓜 𝓡 𝓡.env).C (tables 𝓤 𝓛.H 𝓜 𝓡 𝓡.env).Λ function (pointer_val at ∷ heap_vals alloc) (post at value)

    ends : (at : Ptr) (value : Option R.Denot) (v : Val) (boxed : Option (Box R.Denot)) → option_map (λ b. b.value) boxed ≡ value
        → ent 𝓤 (⋆ 𝓛 (‵ ((option_row Boxed).own_val boxed (v ∷ [])) ∷ ‵ (flft κ q) ∷ [])) (post at value v)
    ends at value v boxed is =
        let Holds : Type 0 = option_map (λ b. b.value) boxed ≡ value in
        qed 𝓛 (‵ ((option_row Boxed).own_val boxed (v ∷ [])) ∷ ‵ (flft κ q) ∷ []) ∵
        use0 𝓛 (raw (fact 𝓤 Holds)) (fact_i 𝓤 Holds (emp 𝓤) is) $ nothing ! $ move ! (3 ∷ 0 ∷ []) $ join ! $
        nothing ! $ nothing ! $ fjoin ! $ nothing ! $ fjoin ! $
        keep ! (1 ∷ 0 ∷ 3 ∷ 2 ∷ []) $ by ! (leaves 𝓛 E stayed Γ (bound at value) v boxed (tt, (tt, tt)) (tt, (tt, tt)))

    closed_walk : ent 𝓤 (⋆ 𝓛 (‵ (flft κ q) ∷ [])) (Ends null_ptr None)
    closed_walk =
        qed 𝓛 (‵ (flft κ q) ∷ []) ∵ enter ! _ _ _ _ _ $ alloc_all ! (λ l. pass_all ! refl (pointer_typed null_ptr, ((tt, ((tt, tt), tt)), tt)) $
        sets ! (of_opd ! (get_in ! (fld ! refl (stop !)) (sub ! 0 refl (whole !)))) refl (tt, record { fits = lit< tt }) $
        sets ! (of_opd ! (get ! refl)) refl (tt, record { fits = lit< tt }) $
        sets ! (bin ! (get ! refl) (lit ! tt) tt) refl (tt, tt) $
        first ! $ branches ! (get ! refl)
        (λ yes. sets ! (agg ! (and_then ! (lit ! tt) (no_more !))) refl (tt, (record { fits = lit< tt }, tt)) $
        returns_within ! (post null_ptr None) refl (look_at ! 0 refl) $ free_all ! refl $
        use0 𝓛 (‵ ((option_row Boxed).own_val None (live 0 (of_list []) ∷ []))) (none_of 𝓛 Boxed) $ by ! (ends null_ptr None _ None refl))
        (λ no. absurd no))

    open_walk : (b o : ℕ) (value : R.Denot) → Testable (block_ptr b o)
        → ent 𝓤 (⋆ 𝓛 (‵ (box_owns (ghosts.dealloc_token alloc) R (block_ptr b o) value) ∷ ‵ (global_row.own_val alloc (heap_vals alloc)) ∷ ‵ (flft κ q) ∷ raw (fact 𝓤 (κ ⊑ T.lives)) ∷ []))
        (Ends (block_ptr b o) (Some value))
    unfolding none_code.code
    open_walk b o value testable =
        let at = block_ptr b o in
        let 𝓣 = tables 𝓤 𝓛.H 𝓜 𝓡 𝓡.env in
        let called = g.ended T Heap ghosts dict heap_drop in
        let G = triple_of 𝓛 (g.signature T Heap ghosts dict heap_drop) (g.spec T Heap ghosts dict heap_drop 𝓛 𝓜.mem 𝓡.returns) in
        let met_here = met 𝓤 𝓛 𝓜 𝓡 (code.calls-std_alloc::boxed::Box::from_raw 𝓡.env wired) T Heap L heap_laws ghosts dict heap_drop
        (passed 𝓡.env (code.calls-std_heap::GlobalAllocator::allocate 𝓡.env wired) (code.calls-std_heap::GlobalAllocator::deallocate 𝓡.env wired)
        (code.calls-std_heap::GlobalAllocator::grow 𝓡.env wired) (code.calls-std_heap::GlobalAllocator::shrink 𝓡.env wired) _ 𝓤 𝓛 𝓜 𝓡)
        (glues "tv_blocks::Destruct++none::drop" 𝓡.env (code.calls-tv_blocks::Destruct++none::drop 𝓡.env wired) Heap heap_laws _ 𝓤 𝓛 𝓜 𝓡) in
        let z : G.Ghost = (((κ, ([], tt)), (q, (full_share, tt)), tt, (alloc, (at, tt)), (heap_vals alloc, (rawptr_vals at, tt))), value) in
        qed 𝓛 (‵ (box_owns (ghosts.dealloc_token alloc) R at value) ∷ ‵ (global_row.own_val alloc (heap_vals alloc)) ∷ ‵ (flft κ q) ∷ raw (fact 𝓤 (κ ⊑ T.lives)) ∷ []) ∵
        enter ! _ _ _ _ _ $ alloc_all ! (λ l. pass_all ! refl (pointer_typed at, ((tt, ((tt, tt), tt)), tt)) $
        sets ! (of_opd ! (get_in ! (fld ! refl (stop !)) (sub ! 0 refl (whole !)))) refl (tt, tt) $
        sets ! (of_opd ! (get ! refl)) refl (tt, tt) $
        sets ! (bin ! (get ! refl) (lit ! tt) (tests_null at testable)) refl (tt, tt) $
        first ! $ branches ! (get ! refl)
        (λ yes. absurd yes)
        (λ no. skips ! $ exec ! 𝓣.C 𝓣.Λ (env function.locals l) (after 4 function.body) (at_ret (env function.locals l) (post at (Some value))) $
        first ! $ blocks ! $
        sets ! (of_opd ! (get ! refl)) refl (tt, ((tt, tt), tt)) $
        sets ! (of_opd ! (get ! refl)) refl (tt, tt) $
        -- [what the box owns; the allocator; the lifetime; that the type outlives it]
        nothing ! $ feq_i ! (List Val) (rawptr_vals at) (rawptr_vals at) refl $ join ! $ move ! (2 ∷ 0 ∷ []) $ join ! $
        nothing ! $ use0 𝓛 (‵ (flft [] full_share)) (𝓛.lfts.lft-nil full_share) $ join ! $ move ! (3 ∷ 0 ∷ []) $ join ! $ join ! $ move ! (1 ∷ []) $
        use0 𝓛 (raw (fact 𝓤 ([] ⊑ []))) (fact_i 𝓤 ([] ⊑ []) (emp 𝓤) (⊑_static [])) $ join ! $ move ! (2 ∷ 0 ∷ []) $ join ! $ move ! (1 ∷ 0 ∷ []) $ join ! $
        use1 𝓛 (raw (G.pre z)) (id⊢ 𝓤 _) $
        calls_at_last ! (framed 𝓤 𝓛.H 𝓜 𝓣) G met_here z (and_then ! (get ! refl) (and_then ! (get ! refl) (no_more !))) (λ v.
        use1 𝓛 (later (some (λ (x : Box R.Denot). ((‵ (flft κ q) ⊛ ‵ (flft [] full_share) ⊛ ‵ ftrue) ⊛ ‵ (Boxed.own_val x (v ∷ []))) ⊛
        some (λ (ws : Unit {0} × (Unit {0} × Unit {0})). ‵ (lasts called z.0.0 z.0.3 ws) ⊛ (raw (fact 𝓤 (x.value ≡ value)) ⊛ raw (fact 𝓤 (x.alloc ≡ alloc))))))) (id⊢ 𝓤 _) $
        await ! tt $ pick ! (λ x. split ! $ split ! $ split ! $ move ! (1 ∷ []) $ drop ! $ move ! (2 ∷ 1 ∷ []) $ pick ! (λ ws. split ! $ drop ! $ split ! $
        heard ! _ (λ value_is. heard ! _ (λ alloc_is. peeks ! Boxed (Is Boxed) (shows 𝓛 Boxed) x (v ∷ []) (λ is.
        let typed = (boxed_lawful 𝓛 R (param_laws 0 T L)).typed x (v ∷ []) is in
        lands_last ! refl typed.0 $ exec ! 𝓣.C 𝓣.Λ (env function.locals l) (after 5 function.body) (at_ret (env function.locals l) (post at (Some value))) $
        sets ! (of_opd ! (get ! refl)) refl typed.0 $
        sets ! (agg ! (and_then ! (lit ! tt) (and_then ! (get ! refl) (no_more !)))) refl (both _ true typed.0.0 tt, (record { fits = lit< tt }, (typed.0.1, tt))) $
        returns ! (look_at ! 0 refl) $ free_all ! refl $
        use1 𝓛 (‵ ((option_row Boxed).own_val (Some x) (live 1 (of_list (v ∷ [])) ∷ []))) (Some-of 𝓛 Boxed x v) $ by ! (ends at (Some value) _ (Some x) (ap Some value_is))))))))))

    abbrev τ : Ty
    τ = raw_type (lone R.mir)

    taken : (at : Ptr) (value : Option R.Denot)
        → ent 𝓤 (⋆ 𝓛 (‵ (keeps R at value) ∷ ‵ (global_row.own_val alloc (heap_vals alloc)) ∷ ‵ (flft κ q) ∷ raw (fact 𝓤 (κ ⊑ T.lives)) ∷ [])) (Ends at value)
    taken at None =
        qed 𝓛 (‵ (keeps R at None) ∷ ‵ (global_row.own_val alloc (heap_vals alloc)) ∷ ‵ (flft κ q) ∷ raw (fact 𝓤 (κ ⊑ T.lives)) ∷ []) ∵
        feq_l ! (λ e. keep ! (1 ∷ []) $ regoal ! (λ (p : Ptr). prop (Ends p None)) e refl $ by ! closed_walk)
    taken at (Some value) =
        qed 𝓛 (‵ (keeps R at (Some value)) ∷ ‵ (global_row.own_val alloc (heap_vals alloc)) ∷ ‵ (flft κ q) ∷ raw (fact 𝓤 (κ ⊑ T.lives)) ∷ []) ∵
        fpick ! (λ heap. use1 𝓛 (‵ (box_owns (ghosts.dealloc_token alloc) R at value)) (id⊢ 𝓤 _) $ fsplit ! $ move ! (1 ∷ []) $
        -- [the right to free the block; the value; the allocator]
        use1 𝓛 (given (Testable at) (‵ (ghosts.dealloc_token alloc τ at))) (fact_use 𝓤 (Testable at) (dealloc_token-Testable 𝓛 alloc τ at) (guard_i 𝓤 (Testable at) _)) $
        learn ! (λ testable. move ! (1 ∷ []) $ in_a_block ! at (λ p. lies_at R full_share p value) (id⊢ 𝓤 _) (λ b o e.
        rewrite ! 1 (λ (p : Ptr). ‵ (ghosts.dealloc_token alloc τ p)) e refl $ fjoin ! $
        regoal ! (λ (p : Ptr). prop (Ends p (Some value))) e refl $ by ! (open_walk b o value (subst Testable e testable)))))

pub into_box_spec : {M : Type 1} → statement M
into_box_spec 𝓤 𝓛 𝓜 𝓡 wired T L =
    let E = f.ended T in let R = param 0 T in let stayed : Stays E.signature.params E.kept = (stay_dropped _ no, (stay_dropped _ yes, tt)) in let inst = layouts (a_type ∷ []) (T, tt) in
    proved 𝓛 E stayed (f.clauses T 𝓛 𝓜.mem 𝓡.returns) 𝓜 𝓡
    (Goes-dropped 𝓛 1 (plain (λ _. the_row R)) no (λ κs x w. refl), (Goes-dropped 𝓛 1 (plain (λ _. global_row)) yes (λ κs x w. refl), tt))
    (f.Key.name inst) (inst_fn inst code.function) (code.unfolded 𝓤 𝓛.H 𝓜 𝓡 wired (T, tt))
    (λ κs. ((λ kept. pointer_vals kept.at), (heap_vals, tt))) (λ κs. ((kept_laws.lowers R (param_laws 0 T L)).val_is, (global_laws.the_told.tells, tt))) (λ κs qs bounds a n are.
    let toks = ‵ (flft κs.0 qs.0) ⊛ ‵ ftrue in let within = raw (fact 𝓤 (κs.0 ⊑ T.lives)) in
    qed 𝓛 ((toks ⊛ ‵ ((the_row R).own_val a.0 (pointer_vals a.0.at)) ⊛ ‵ (global_row.own_val a.1.0 (heap_vals a.1.0)) ⊛ ‵ ftrue) ∷ (within ⊛ ‵ ftrue) ∷ []) ∵
    split ! $ split ! $ move ! (2 ∷ []) $ split ! $ move ! (1 ∷ []) $ split ! $ move ! (2 ∷ []) $ fsplit ! $
    move ! (6 ∷ []) $ split ! $ keep ! (3 ∷ 4 ∷ 6 ∷ 0 ∷ []) $ by ! (taken 𝓤 𝓛 𝓜 𝓡 wired T L κs.0 qs.0 a.1.0 a.0.at a.0.value))
