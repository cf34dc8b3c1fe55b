-- A struct of one pointer, and the function that makes one of the pointer in another.
use Rattle.std.proofs.Common.{[], ◌∷◌, refl, lit<}
use Rattle.std.proofs.raw_atomic.Walks.{proved, leaves}
use Rattle.std.specs.Prelude.{List}
use Rattle.std.specs.Ptr.{Ptr, block_ptr, null_ptr}
use base.Fml.{ftrue}
use base.Logic.{SProp, emp, ent, id⊢, via}
use contract.Running.{MachineTables, Running, tables}
use denote.Exit.{Kept}
use denote.Laws.{Is, Tells}
use denote.RattleType.{RattleType}
use denote.RawPtr.{ptr_val}
use denote.Signature.{plain}
use denote.Steps.{nothing}
use denote.Triple.Clauses.{Clauses, Ended, Lasts, at_exit, closing}
use denote.Triple.Spec.{Meets}
use denote.Triple.Walked.{Fit, Goes, Stays, stay_dropped, walk_of}
use lib.Dec.{T}
use mir.Syntax.{Callee, Fn, Sym, Ty, ty_ptr, ty_struct, tnil, tcons, local, value_local, assign, place, rv_opd, copy, field, aggregate, return, seq}
use mir.Val.{Val, WT, has_ty, vstruct, of_list}
use prog.Model.{Model}
use prog.Wp.{Closed, WpFn}
use seplogic.Ra.Ura.{Ura}
use types.ByLocal.{alloc_all, pass_all, free_all, look_at, get, get_in, sets}
use types.Kit.{‵, raw, ◌⊛◌, ◌$◌, ◌∵◌, !, qed, by, drop, fjoin, keep, split, use0, use1}
use types.Logic.{Logic, sem}
use types.Part.{agg, whole, sub}
use types.Run.{enter, of_opd, no_more, and_then, fld, stop, returns}

-- its machine value
abbrev pub pointer_val : Ptr → Val
pointer_val p = vstruct (of_list (ptr_val p ∷ []))

abbrev pub pointer_vals : Ptr → List Val
pointer_vals p = pointer_val p ∷ []

-- its type, by its name
abbrev pub of_pointer : Sym → Ty
of_pointer name = ty_struct name (tcons ty_ptr tnil)

pub pointer_typed : (p : Ptr) → T (has_ty (of_pointer []) (pointer_val p)) × WT (pointer_val p)
pointer_typed (block_ptr b o) = (tt, (tt, tt))
pointer_typed null_ptr = (tt, (record { fits = lit< tt }, tt))

ptr_typed : (p : Ptr) → T (has_ty ty_ptr (ptr_val p)) × WT (ptr_val p)
ptr_typed (block_ptr b o) = (tt, tt)
ptr_typed null_ptr = (tt, record { fits = lit< tt })

-- the pointer of the one is the pointer of the other
abbrev pub moves : Sym → Sym → Fn
moves to from = record {
  lifetimes = 0;
  outlives = [];
  ty_params = [];
  givens = 0;
  params = 1;
  locals = local (of_pointer to) value_local ∷ local (of_pointer from) value_local ∷ local ty_ptr value_local ∷ local ty_ptr value_local ∷ [];
  body = seq (assign (place 2 []) (rv_opd (copy (place 1 (field 0 ∷ [])))))
      (seq (assign (place 3 []) (rv_opd (copy (place 2 [])))) (seq (assign (place 0 []) (aggregate (copy (place 3 []) ∷ []))) return));
}

module _ {M : Type 1} {𝓤 : Ura M} (𝓛 : Logic 𝓤) (𝓜 : Model 𝓤 𝓛.H) (𝓡 : Running 𝓤 𝓛.H 𝓜) where
  abbrev 𝓣 : MachineTables 𝓤 𝓛.H 𝓜
  𝓣 = tables 𝓤 𝓛.H 𝓜 𝓡 𝓡.env

  moved : (to from : Sym) (p : Ptr) (post : Val → SProp 𝓤) → ent 𝓤 (post (pointer_val p)) (WpFn 𝓤 𝓛.H 𝓣.C 𝓣.Λ (moves to from) (pointer_val p ∷ []) post)
  moved to from p post =
      qed 𝓛 (raw (post (pointer_val p)) ∷ []) ∵ enter ! _ _ _ _ _ $ alloc_all ! (λ l. pass_all ! refl (pointer_typed p, tt) $
      sets ! (of_opd ! (get_in ! (fld ! refl (stop !)) (sub ! 0 refl (whole !)))) refl (ptr_typed p) $
      sets ! (of_opd ! (get ! refl)) refl (ptr_typed p) $
      sets ! (agg ! (and_then ! (get ! refl) (no_more !))) refl (pointer_typed p) $
      returns ! (look_at ! 0 refl) $ free_all ! refl $ by ! (id⊢ 𝓤 _))

  -- such a function, where the struct that it makes owns what the other owned
  module _ (S D : RattleType) (seen : Kept) (at : S.Denot → Ptr) (made : S.Denot → D.Denot) where
    abbrev Passing : Ended
    Passing = record { signature = record { lifetimes = 0; outlives = []; params = plain (λ _. S) ∷ []; result = plain (λ _. D) }; kept = (seen, tt) }

    abbrev stayed : Stays Passing.signature.params Passing.kept
    stayed = (stay_dropped _ seen, tt)

    pub passes : (ws : (s : S.Denot) → Lasts Passing tt (s, tt)) → ((s : S.Denot) → Fit Passing stayed tt (s, tt) (ws s)) → (c : Clauses 𝓤 Passing) (to from : Sym) (k : Callee) → Closed 𝓤 𝓛.H 𝓣.C 𝓣.Λ k (moves to from)
        → Goes 𝓛 0 (plain (λ _. S)) seen (stay_dropped _ seen) → Tells S (Is S) (λ s. pointer_vals (at s))
        → ((s : S.Denot) → ent 𝓤 (sem 𝓛 (S.own_val s (pointer_vals (at s)))) (sem 𝓛 (D.own_val (made s) (pointer_vals (at s)))))
        → ((s : S.Denot) (g : (c tt (s, tt)).ghost) → ent 𝓤 (emp 𝓤) ((c tt (s, tt)).ensures g (made s) (at_exit Passing tt (s, tt) (ws s))))
        → Meets 𝓛 Passing.signature (𝓣.C k) (closing 𝓛 Passing c)
    passes ws fit c to from k closed goes tells owned holds =
        proved 𝓛 Passing stayed c 𝓜 𝓡 (goes, tt) k (moves to from) closed (λ κs. ((λ s. pointer_vals (at s)), tt)) (λ κs. (tells, tt)) (λ κs qs bounds a n are.
        let y : (walk_of 𝓛 Passing stayed c).Ghost = ((κs, qs, bounds, a, (pointer_vals (at a.0), tt)), n) in let post = (walk_of 𝓛 Passing stayed c).post y in
        let d : D.Denot = made a.0 in let vs : List Val = pointer_vals (at a.0) in
        via 𝓤 (post (pointer_val (at a.0)))
        (qed 𝓛 ((‵ ftrue ⊛ ‵ (S.own_val a.0 vs) ⊛ ‵ ftrue) ∷ raw ((c κs a).requires n) ∷ []) ∵ split ! $ drop ! $ split ! $ keep ! (0 ∷ []) $
        use1 𝓛 (‵ (D.own_val d vs)) (owned a.0) $ use0 𝓛 (raw ((c κs a).ensures n d (at_exit Passing κs a (ws a.0)))) (holds a.0 n) $ nothing ! $ nothing ! $ fjoin ! $ nothing ! $
        keep ! (0 ∷ 1 ∷ 3 ∷ 2 ∷ []) $ by ! (leaves 𝓛 Passing stayed c y (pointer_val (at a.0)) d (ws a.0) (fit a.0)))
        (moved to from (at a.0) post))
