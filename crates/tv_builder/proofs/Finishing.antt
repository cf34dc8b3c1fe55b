-- The complete tree becomes the value of a pair.
use Rattle.std.proofs.Common.{◌≡◌, ℕ, Bool, false, List, [], ◌∷◌, ◌++◌, length, take, drop, Option, Some, None, Ok, Err, OnOk, IfErr, refl, sym, ◌∙◌, ap, subst, arith}
use Rattle.std.proofs.lemmas.List.{append-nil, take-append-drop, take_all}
use Rattle.std.proofs.Math.Logic.{∥∥₁_elim, ∥∥₁_map, ∥∥₁_prop}
use mathlib.Core.HLevel.{⊥_prop}
use Rattle.std.specs.Coded.{Coded-set}
use Rattle.tv_format.specs.Tree.{Tree}
use Rattle.tv_heap.specs.Reads.{ReadsTree}
use Rattle.tv_heap.specs.TypeCode.{type_code}
use Rattle.tv_builder.specs.declared.errors.BuildError.{BuildError}
use Rattle.tv_builder.specs.declared.errors.BuildError.TheVariants.{AlreadyFailed, OutOfPlace, NotUtf8, HeapFull, Memory}
use Rattle.tv_builder.specs.declared.building.Building.{Building}
use Rattle.tv_heap.specs.contracts.value_type.Place.{the_row}
use Rattle.tv_heap.specs.declared.value_type.Place.{Place}
use Rattle.tv_builder.specs.Given.{Given, pending_in}
use Rattle.tv_builder.specs.Image.{held, image_of, ShowsBehind}
use Rattle.tv_builder.specs.OneState.{StandsBehind, same_behind}
use Rattle.tv_builder.specs.Shows.{ShowsState}
use Rattle.tv_builder.specs.StateHeap.{state_heap}
use Rattle.tv_builder.specs.TreeBytes.{tree_place, document_heap}
use Rattle.tv_builder.specs.State.{State, complete, in_lists, in_bytes}
use Rattle.tv_builder.specs.declared.pair_builder.PairBuilder.{PairBuilder}
use Rattle.tv_builder.specs.declared.heap_pairs.HeapPair.{HeapPair}
use Rattle.tv_builder.specs.Finish.{HoldsPrefix, Settled, Kept, KeptNot, WhyNoPair}
use Rattle.tv_builder.specs.Builder.{built, state_of, heap_so_far, kept_heap, Fails, Finished, FinishesIf, Finishes, IsComplete}
use Rattle.tv_builder.specs.Holds.{ReadsPairs, Holds, pair_at}
use Rattle.tv_builder.proofs.Documents.{same_document, heap_then, pairs_grown, pairs_push}
use Rattle.tv_builder.proofs.PairBuilding.{Answer, Left, stands, Fields, none_shows, fields_left, heap_stands, fails_now}

both : {A : Type 0} (x : Option A) (a : A) → x ≡ Some a → x ≡ None → ⊥
both x a e f = absurd (let g : Some a ≡ None = sym e ∙ f in cc)

-- where a tree is complete, it is all of the state
tree_state : (b : Building) (s : State) → ∥ ShowsState b s ∥₁ → (p : Place) → b.complete ≡ Some p → IsComplete s
tree_state b (complete t) h p e = (t, refl)
tree_state b (in_lists ls) h p e = absurd (∥∥₁_elim h ⊥_prop (λ s. both b.complete p e s.at.none))
tree_state b (in_bytes ls kind n bs) h p e = absurd (∥∥₁_elim h ⊥_prop (λ s. both b.complete p e s.at.none))

no_tree : (b : Building) (s : State) → ∥ ShowsState b s ∥₁ → b.complete ≡ None → IsComplete s → ⊥
no_tree b s h e c = ∥∥₁_elim (subst (λ z. ∥ ShowsState b z ∥₁) c.1 h) ⊥_prop (λ x. both b.complete x.at.at x.at.is e)

some_of : (x : Option Place) → ¬ (x ≡ None) → (p : Place) × (x ≡ Some p)
some_of None n = absurd (n refl)
some_of (Some p) n = (p, refl)

-- ---- the pair

-- what is known of a builder whose tree is complete
pub record Whole (old : PairBuilder) (at : Place) : Type 0 where
  pub tree : Tree
  pub is : state_of old ≡ complete tree
  pub shows : ∥ ShowsState old.building (complete tree) ∥₁
  pub place : at ≡ tree_place (kept_heap old) tree

whole : (old : PairBuilder) (at : Place) → old.building.complete ≡ Some at → Whole old at
whole old at e =
    let shown = (stands old).1 in
    let t = tree_state old.building old.state.0 shown at e in
    record {
      tree = t.0;
      is = t.1;
      shows = subst (λ z. ∥ ShowsState old.building z ∥₁) t.1 shown;
      place = ∥∥₁_elim old.state.1 (Coded-set the_row.coded at (tree_place (kept_heap old) t.0)) (λ p.
          let drawn : held old.building ≡ image_of (kept_heap old) (complete t.0) = p.image ∙ ap (λ z. image_of (kept_heap old) z) t.1 in
          let both_are : Some at ≡ Some (tree_place (kept_heap old) t.0) = sym e ∙ ap (λ (g : Given). g.complete) drawn in
          cc);
    }

reads_at : (b : Building) (t : Tree) (at : Place) → b.complete ≡ Some at → ShowsState b (complete t) → ReadsTree b.heap.items (type_code at.value_type) at.address t
reads_at b t at e s =
    let f : Some s.at.at ≡ Some at = sym s.at.is ∙ e in
    let same_at : s.at.at ≡ at = cc in
    subst (λ (p : Place). ReadsTree b.heap.items (type_code p.value_type) p.address t) same_at s.at.placed.reads

abbrev with_pair : (old : PairBuilder) (mid : Building) (ps : List HeapPair) (kept f : ℕ) (k : Kept old.building mid old.pairs.items ps kept f) → Holds (heap_so_far old) ps
with_pair old mid ps kept f k =
    let w = whole old k.at k.is in
    let heap = heap_so_far old in (
      built old ++ (f, w.tree) ∷ [],
      ∥∥₁_elim old.document.1 ∥∥₁_prop (λ r. ∥∥₁_map w.shows (λ s.
          subst (λ z. ReadsPairs heap z (built old ++ (f, w.tree) ∷ [])) (sym k.pairs)
          (pairs_push heap old.pairs.items (built old) (pair_at f k.at) (f, w.tree)
          (pairs_grown (take old.kept heap) heap (drop old.kept heap) old.pairs.items (built old) (sym (take-append-drop old.kept heap)) r)
          (record { field = refl; fits = k.fits; reads = reads_at old.building w.tree k.at k.is s })))),
    )

prefix_is : (old : PairBuilder) (mid new : Building) (ps : List HeapPair) (kept f : ℕ) → Kept old.building mid old.pairs.items ps kept f → new ≡ mid → take kept new.heap.items ≡ heap_so_far old
prefix_is old mid new ps kept f k e =
    let same_heap : new.heap.items ≡ heap_so_far old = ap (λ (b : Building). b.heap.items) (e ∙ k.rest) in
    ap (λ z. take kept z) same_heap ∙ take_all kept (heap_so_far old) (omega (arith, k.kept_is))

abbrev after_pair : (old : PairBuilder) (mid new : Building) (ps : List HeapPair) (kept f : ℕ) → Kept old.building mid old.pairs.items ps kept f → new ≡ mid → StandsBehind (take kept new.heap.items) new
after_pair old mid new ps kept f k e =
    let w = whole old k.at k.is in (
      in_lists [],
      ∥∥₁_map w.shows (λ s. subst (λ (z : Building). ShowsBehind (take kept z.heap.items) z (in_lists [])) (sym (e ∙ k.rest))
          (none_shows kept (record old.building { complete = None }) (omega (arith, k.kept_is)) (omega (arith, s.fits)) s.at.places_none (s.counted ∙ ap pending_in s.at.frames) s.at.frames refl s.at.closed)),
    )

finish_fields_ok : (old : PairBuilder) (mid new : Building) (ps : List HeapPair) (kept f : ℕ) → Kept old.building mid old.pairs.items ps kept f → new ≡ mid → Fields new kept ps
finish_fields_ok old mid new ps kept f k e =
    let w = whole old k.at k.is in
    let same_heap : new.heap.items ≡ heap_so_far old = ap (λ (b : Building). b.heap.items) (e ∙ k.rest) in
    let prefix = prefix_is old mid new ps kept f k e in
    let document : HoldsPrefix new.heap.items kept ps = subst (λ z. Holds z ps) (sym prefix) (with_pair old mid ps kept f k) in
    let same_doc = same_document (take kept new.heap.items) (heap_so_far old) ps ps document (with_pair old mid ps kept f k) prefix refl in
    record {
      document = document;
      kept_within = omega (arith, ap length same_heap, k.kept_is);
      bytes =
          prefix ∙ heap_stands old ∙ ap (λ s. state_heap (document_heap [] (built old)) s) w.is
          ∙ sym (heap_then [] (built old) (f, w.tree)) ∙ ap (document_heap []) (sym same_doc);
      state = after_pair old mid new ps kept f k e;
    }

left_same : (old : PairBuilder) (mid : Building) (e : BuildError) → mid ≡ old.building → Left old.building mid (λ s. s) (Err e)
left_same old mid e same_is = record { moves = tt; prefix = ([], ap (λ (b : Building). b.heap.items) same_is ∙ sym (append-nil (heap_so_far old))) }

settled_as : (mid new : Building) (kept other : ℕ) (failed failed_new : Bool) (r : Answer) → kept ≡ other → Settled mid new kept failed failed_new r → Settled mid new other failed failed_new r
settled_as mid new kept other failed failed_new r e s = subst (λ n. Settled mid new n failed failed_new r) e s

pub finish_fields : (old : PairBuilder) (mid new : Building) (ps : List HeapPair) (kept f : ℕ) (failed_new : Bool) (r : Answer) → OnOk r (Kept old.building mid old.pairs.items ps kept f)
    → IfErr r (λ e. KeptNot old.building mid old.pairs.items ps old.kept kept e) → Settled mid new kept old.failed failed_new r → Fields new kept ps
finish_fields old mid new ps kept f failed_new (Ok x) ok err s = finish_fields_ok old mid new ps kept f ok s.ok
finish_fields old mid new ps kept f failed_new (Err e) ok err s =
    subst (λ n. Fields new n ps) (sym err.kept_same) (subst (λ qs. Fields new old.kept qs) (sym err.pairs)
    (fields_left old mid new failed_new (λ s. s) (Err e) (left_same old mid e err.unchanged) (settled_as mid new kept old.kept old.failed failed_new (Err e) err.kept_same s)))

-- ---- what the call says

finish_done : (old new : PairBuilder) (mid : Building) (f : ℕ) → old.failed ≡ false → Kept old.building mid old.pairs.items new.pairs.items new.kept f → Settled mid new.building new.kept old.failed new.failed (Ok tt) → Finished old new f
finish_done old new mid f not_failed k s =
    let w = whole old k.at k.is in
    record {
      tree = w.tree;
      was = w.is;
      not_failed = s.not_failed ∙ not_failed;
      document = same_document (take new.kept (heap_so_far new)) (heap_so_far old) new.pairs.items new.pairs.items new.document (with_pair old mid new.pairs.items new.kept f k) (prefix_is old mid new.building new.pairs.items new.kept f k s.ok) refl;
      state = same_behind (take new.kept new.building.heap.items) (take new.kept new.building.heap.items) new.building new.state (after_pair old mid new.building new.pairs.items new.kept f k s.ok);
      pairs = k.pairs ∙ ap (λ (p : Place). old.pairs.items ++ pair_at f p ∷ []) w.place;
      heap = ap (λ (b : Building). b.heap.items) (s.ok ∙ k.rest);
      kept = k.kept_is;
    }

finish_live : (old new : PairBuilder) (mid : Building) (f : ℕ) (r : Answer) → old.failed ≡ false → OnOk r (Kept old.building mid old.pairs.items new.pairs.items new.kept f)
    → IfErr r (λ e. KeptNot old.building mid old.pairs.items new.pairs.items old.kept new.kept e) → Settled mid new.building new.kept old.failed new.failed r → FinishesIf false old new f r
finish_live old new mid f (Ok x) not_failed ok err s = finish_done old new mid f not_failed ok s
finish_live old new mid f (Err e) not_failed ok err s = answer e err.why fails
  where
    fails : Fails old new
    fails = fails_now old new mid (λ s. s) e (record {
      not_failed = not_failed;
      left = left_same old mid e err.unchanged;
      settled = settled_as mid new.building new.kept old.kept old.failed new.failed (Err e) err.kept_same s;
      kept = err.kept_same;
      pairs = err.pairs;
    })

    is_complete : ¬ (old.building.complete ≡ None) → IsComplete (state_of old)
    is_complete n = let p = some_of old.building.complete n in tree_state old.building old.state.0 (stands old).1 p.0 p.1

    answer : (x : BuildError) → WhyNoPair old.building x → Fails old new → FinishesIf false old new f (Err x)
    answer OutOfPlace h g = (no_tree old.building old.state.0 (stands old).1 h, g)
    answer Memory h g = (is_complete h, g)
    answer AlreadyFailed h g = absurd h
    answer NotUtf8 h g = absurd h
    answer HeapFull h g = absurd h

pub finishes : (old new : PairBuilder) (mid : Building) (f : ℕ) (r t : Answer) → old.failed ≡ false → OnOk r (Kept old.building mid old.pairs.items new.pairs.items new.kept f)
    → IfErr r (λ e. KeptNot old.building mid old.pairs.items new.pairs.items old.kept new.kept e) → Settled mid new.building new.kept old.failed new.failed r → t ≡ r → Finishes old new f t
finishes old new mid f r t not_failed ok err s e = subst (λ z. FinishesIf z old new f t) (sym not_failed) (subst (λ z. FinishesIf false old new f z) (sym e) (finish_live old new mid f r not_failed ok err s))
