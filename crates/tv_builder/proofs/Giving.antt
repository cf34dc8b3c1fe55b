-- What a finished value does.
use Rattle.std.proofs.Common.{◌≡◌, ℕ, suc, ◌<◌, ◌≤◌, true, false, nat_lt, List, [], ◌∷◌, ◌++◌, length, take, drop, None, refl, sym, ◌∙◌, ap, subst, append_assoc, length-append, arith, inl, inr}
use Rattle.std.proofs.lemmas.Bool.{cond-true, cond-false, cases_lt, lt-ltb, le-ltb}
use Rattle.std.proofs.lemmas.List.{append-nil, take-append-le, drop-append-le}
use Rattle.tv_base.specs.Parts.{short_sized}
use Rattle.tv_base.specs.Sink.{IsPrefix}
use Rattle.tv_format.specs.Tree.{Tree, leaf, text, elements}
use Rattle.tv_heap.specs.Reads.{ReadsElements}
use Rattle.tv_heap.specs.TypeCode.{type_code}
use Rattle.tv_heap.proofs.Grown.{grown_elements}
use Rattle.tv_heap.proofs.Lists.{elements_push}
use Rattle.tv_heap.proofs.Writes.{longer}
use Rattle.tv_builder.specs.declared.kinds.BytesKind.TheVariants as kinds
use Rattle.tv_builder.specs.declared.building.Frame.{Frame}
use Rattle.tv_heap.specs.declared.value_type.Place.{Place}
use Rattle.tv_builder.specs.Given.{Given, given, place_bytes, still_lacks, one_more}
use Rattle.tv_builder.specs.Kinds.{list_type, total}
use Rattle.tv_builder.specs.Parts.{value, Trades, same}
use Rattle.tv_builder.specs.Shows.{Placed, ShowsList, ShowsLists, ShowsAt}
use Rattle.tv_builder.specs.State.{OpenList, State, in_lists, with_child, lacks_more, with_value, with_key, list_tree, AreChildren, IsList, AreLists, AllAwait, OthersAwait, HeadNext, IsState, list_head, list_parts, lists_parts, parts_of}
use Rattle.tv_builder.proofs.Children.{child_value, child_key, key_lacks, full_list, list_placed}
use Rattle.tv_builder.proofs.Trading.{trades_as, trades_from, trades_then, trades_last}

-- ---- prefixes

pub prefix_same : (old new : List ℕ) → new ≡ old → IsPrefix old new
prefix_same old new e = ([], e ∙ sym (append-nil old))

pub prefix_then : (old mid new : List ℕ) → IsPrefix old mid → IsPrefix mid new → IsPrefix old new
prefix_then old mid new p q = (p.0 ++ q.0, q.1 ∙ ap (λ z. z ++ q.0) p.1 ∙ append_assoc old p.0 q.0)

pub prefix_length : (old new : List ℕ) → IsPrefix old new → length old ≤ length new
prefix_length old new p = omega (arith, ap length p.1, length-append old p.0)

-- ---- the two cases

pub given_waits : (heap places : List ℕ) (f : Frame) (fs : List Frame) (p : Place) → still_lacks f ≡ true
    → given heap places (f ∷ fs) p ≡ record { heap = heap; places = places ++ place_bytes p; frames = one_more f ∷ fs; complete = None }
given_waits heap places f fs p e = cond-true (still_lacks f) _ _ e

pub given_closes : (heap places : List ℕ) (f : Frame) (fs : List Frame) (p : Place) → still_lacks f ≡ false
    → given heap places (f ∷ fs) p ≡ given (heap ++ short_sized (drop f.first (places ++ place_bytes p))) (take f.first places) fs (record { value_type = list_type f.kind; address = length heap })
given_closes heap places f fs p e = cond-false (still_lacks f) _ _ e

pub value_waits : (l : OpenList) (ls : List OpenList) (t : Tree) → lacks_more l ≡ true → with_value (l ∷ ls) t ≡ in_lists (with_child l t ∷ ls)
value_waits l ls t e = cond-true (lacks_more l) _ _ e

pub value_closes : (l : OpenList) (ls : List OpenList) (t : Tree) → lacks_more l ≡ false → with_value (l ∷ ls) t ≡ with_value ls (list_tree l.kind (l.children ++ t ∷ []))
value_closes l ls t e = cond-false (lacks_more l) _ _ e

-- a test comes out one way or the other
pub data Tested (n m : ℕ) : Type 0 where
  below : n < m → nat_lt n m ≡ true → Tested n m
  not_below : m ≤ n → nat_lt n m ≡ false → Tested n m

pub tested : (n m : ℕ) → Tested n m
tested n m = elim (cases_lt n m) [ inl h ↦ below h (lt-ltb n m h) | inr h ↦ not_below h (le-ltb n m h) ]

-- ---- the heap only grows

pub given_prefix : (fs : List Frame) (heap places : List ℕ) (p : Place) → IsPrefix heap (given heap places fs p).heap
given_prefix [] heap places p = prefix_same heap heap refl
given_prefix (f ∷ fs) heap places p = elim (tested (suc f.finished) (total f.kind f.announced)) [
  | below h e ↦ subst (λ (g : Given). IsPrefix heap g.heap) (sym (given_waits heap places f fs p e)) (prefix_same heap heap refl)
  | not_below h e ↦
      let own = short_sized (drop f.first (places ++ place_bytes p)) in
      subst (λ (g : Given). IsPrefix heap g.heap) (sym (given_closes heap places f fs p e))
      (prefix_then heap (heap ++ own) _ (own, refl) (given_prefix fs (heap ++ own) (take f.first places) (record { value_type = list_type f.kind; address = length heap })))
]

-- ---- the state

list_grown : (old new more places : List ℕ) (f : Frame) (l : OpenList) → new ≡ old ++ more → ShowsList old places f l → ShowsList new places f l
list_grown old new more places f l e h = record {
  same_kind = h.same_kind;
  same_announced = h.same_announced;
  counted = h.counted;
  cut = h.cut;
  reads = grown_elements old new more (length old) (length new) (drop f.first places) (elements l.children) e (omega (arith, longer old new more e)) h.reads;
}

-- what stands there still stands there once the heap has grown
pub lists_grown : (old new more : List ℕ) (fs : List Frame) (places : List ℕ) (ls : List OpenList) → new ≡ old ++ more → ShowsLists old fs places ls → ShowsLists new fs places ls
lists_grown old new more [] places [] e h = h
lists_grown old new more (f ∷ fs) places (l ∷ ls) e h = (list_grown old new more places f l e h.0, lists_grown old new more fs (take f.first places) ls e h.1)
lists_grown old new more [] places (l ∷ ls) e h = absurd h
lists_grown old new more (f ∷ fs) places [] e h = absurd h

-- the bytes of a list with one child more
pub pushed_reads : (heap places : List ℕ) (f : Frame) (l : OpenList) (p : Place) (t : Tree) → ShowsList heap places f l → Placed heap p t
    → ReadsElements heap (length heap) (drop f.first (places ++ place_bytes p)) (elements (l.children ++ t ∷ []))
pushed_reads heap places f l p t h g =
    subst (λ z. ReadsElements heap (length heap) z (elements (l.children ++ t ∷ []))) (sym (drop-append-le f.first places (place_bytes p) h.cut))
    (elements_push heap (length heap) (drop f.first places) l.children (type_code p.value_type) p.address t h.reads g.reads g.fits g.below)

pub pushed_list : (heap places : List ℕ) (f : Frame) (l : OpenList) (p : Place) (t : Tree) → ShowsList heap places f l → Placed heap p t
    → ShowsList heap (places ++ place_bytes p) (one_more f) (with_child l t)
pushed_list heap places f l p t h g = record {
  same_kind = h.same_kind;
  same_announced = h.same_announced;
  counted = omega (arith, length-append l.children (t ∷ []), h.counted);
  cut = omega (arith, h.cut, length-append places (place_bytes p));
  reads = pushed_reads heap places f l p t h g;
}

pub pushed_others : (heap places more : List ℕ) (n : ℕ) (fs : List Frame) (ls : List OpenList) → n ≤ length places → ShowsLists heap fs (take n places) ls → ShowsLists heap fs (take n (places ++ more)) ls
pushed_others heap places more n fs ls le h = subst (λ z. ShowsLists heap fs z ls) (sym (take-append-le n places more le)) h

abbrev ShowsGiven : Given → State → Type 0
ShowsGiven g s = ShowsAt g.heap g.frames g.places g.complete None s

pub same_test : (heap places : List ℕ) (f : Frame) (l : OpenList) → ShowsList heap places f l → lacks_more l ≡ still_lacks f
same_test heap places f l h = λ i. nat_lt (suc (h.counted i)) (total (h.same_kind i) (h.same_announced i))

-- a tree may come next to these lists
abbrev pub Comes : List OpenList → Tree → Type 0
Comes [] t = Unit {0}
Comes (l ∷ ls) t = AreChildren l.kind (l.children ++ t ∷ []) × AllAwait ls

pub comes : (ls : List OpenList) (t : Tree) → AreLists ls → AllAwait ls → Comes ls t
comes [] t are await = tt
comes (l ∷ ls) t are await = ((child_value l.kind l.children t await.0 are.0.children).0, await.1)

-- a key may, and it closes no list
pub key_comes : (ls : List OpenList) (k : List ℕ) → AreLists ls → OthersAwait ls → HeadNext kinds.Key ls → Comes ls (leaf (text k))
key_comes [] k are others next = absurd next
key_comes (l ∷ ls) k are others next = ((child_key l.kind l.children (leaf (text k)) next tt are.0.children).0, others)

pub key_waits : (ls : List OpenList) (k : List ℕ) → AreLists ls → HeadNext kinds.Key ls → with_key ls k ≡ with_value ls (leaf (text k))
key_waits [] k are next = absurd next
key_waits (l ∷ ls) k are next =
    let lacks = key_lacks l.kind l.announced (length l.children) next are.0.lacks in
    sym (value_waits l ls (leaf (text k)) (lt-ltb (suc (length l.children)) (total l.kind l.announced) (omega (arith, lacks.0))))

-- the state that is left stands there
pub given_shows : (fs : List Frame) (ls : List OpenList) (heap places : List ℕ) (p : Place) (t : Tree) → AreLists ls → Comes ls t → ShowsLists heap fs places ls → Placed heap p t
    → length (given heap places fs p).heap ≤ 4294967295 → ShowsGiven (given heap places fs p) (with_value ls t)
given_shows [] [] heap places p t are next h g fits = record { at = p; is = refl; placed = g; frames = refl; places_none = h; closed = refl }
given_shows [] (l ∷ ls) heap places p t are next h g fits = absurd h
given_shows (f ∷ fs) [] heap places p t are next h g fits = absurd h
given_shows (f ∷ fs) (l ∷ ls) heap places p t are next h g fits = elim (tested (suc f.finished) (total f.kind f.announced)) [
  | below lt e ↦
      let test = same_test heap places f l h.0 ∙ e in
      let body : ShowsGiven (record { heap = heap; places = places ++ place_bytes p; frames = one_more f ∷ fs; complete = None }) (in_lists (with_child l t ∷ ls)) = record {
        none = refl;
        closed = refl;
        lists = (pushed_list heap places f l p t h.0 g, pushed_others heap places (place_bytes p) f.first fs ls h.0.cut h.1);
      } in
      subst (λ x. ShowsGiven x (with_value (l ∷ ls) t)) (sym (given_waits heap places f fs p e))
      (subst (ShowsGiven (record { heap = heap; places = places ++ place_bytes p; frames = one_more f ∷ fs; complete = None })) (sym (value_waits l ls t test)) body)
  | not_below le e ↦
      let test = same_test heap places f l h.0 ∙ e in
      let own = drop f.first (places ++ place_bytes p) in
      let new = heap ++ short_sized own in
      let q : Place = record { value_type = list_type f.kind; address = length heap } in
      let ts = l.children ++ t ∷ [] in
      let u = list_tree l.kind ts in
      let fits_next : length (given new (take f.first places) fs q).heap ≤ 4294967295 = subst (λ (x : Given). length x.heap ≤ 4294967295) (given_closes heap places f fs p e) fits in
      let fits_new : length new ≤ 4294967295 = omega (arith, prefix_length new _ (given_prefix fs new (take f.first places) q), fits_next) in
      let same_total : total l.kind l.announced ≡ total f.kind f.announced = λ i. total (h.0.same_kind i) (h.0.same_announced i) in
      let all : length ts ≡ total l.kind l.announced = omega (arith, length-append l.children (t ∷ []), are.0.lacks, same_total, le, h.0.counted) in
      let placed : Placed new q u = subst (λ k. Placed new (record { value_type = list_type k; address = length heap }) u) h.0.same_kind
      (list_placed l.kind l.announced heap new own ts all next.0 (pushed_reads heap places f l p t h.0 g) refl fits_new) in
      let body = given_shows fs ls new (take f.first places) q u are.1 (comes ls u are.1 next.1) (lists_grown heap new (short_sized own) fs (take f.first places) ls refl h.1) placed fits_next in
      subst (λ x. ShowsGiven x (with_value (l ∷ ls) t)) (sym (given_closes heap places f fs p e)) (subst (ShowsGiven (given new (take f.first places) fs q)) (sym (value_closes l ls t test)) body)
]

-- ---- it is a state, and the parts are traded

pub value_is : (ls : List OpenList) (t : Tree) → AreLists ls → Comes ls t → IsState (with_value ls t)
value_is [] t are next = tt
value_is (l ∷ ls) t are next = elim (tested (suc (length l.children)) (total l.kind l.announced)) [
  | below lt e ↦ subst IsState (sym (value_waits l ls t e)) ((record { lacks = omega (arith, lt, length-append l.children (t ∷ [])); children = next.0 }, are.1), next.1)
  | not_below le e ↦ let u = list_tree l.kind (l.children ++ t ∷ []) in subst IsState (sym (value_closes l ls t e)) (value_is ls u are.1 (comes ls u are.1 next.1))
]

-- a list with one child more
pushed_parts : (l : OpenList) (ls : List OpenList) (t : Tree) → IsList l → AllAwait (l ∷ ls) → lists_parts (l ∷ ls) ++ value t ∷ [] ≡ lists_parts ls ++ list_parts (with_child l t)
pushed_parts l ls t is await =
    append_assoc (lists_parts ls) (list_parts l) (value t ∷ []) ∙ ap (λ z. lists_parts ls ++ (list_head l.kind l.announced ∷ z)) (sym (child_value l.kind l.children t await.0 is.children).1)

pub value_trades : (ls : List OpenList) (t : Tree) → AreLists ls → AllAwait ls → Trades (lists_parts ls ++ value t ∷ []) (parts_of (with_value ls t))
value_trades [] t are await = same
value_trades (l ∷ ls) t are await = elim (tested (suc (length l.children)) (total l.kind l.announced)) [
  | below lt e ↦ trades_from _ (pushed_parts l ls t are.0 await) (trades_as _ (ap parts_of (sym (value_waits l ls t e))) same)
  | not_below le e ↦
      let ts = l.children ++ t ∷ [] in
      let all : length ts ≡ total l.kind l.announced = omega (arith, length-append l.children (t ∷ []), are.0.lacks, le) in
      trades_from _ (pushed_parts l ls t are.0 await)
      (trades_then (trades_last (lists_parts ls) _ _ (full_list l.kind l.announced ts all))
      (trades_as _ (ap parts_of (sym (value_closes l ls t e))) (value_trades ls (list_tree l.kind ts) are.1 await.1)))
]
