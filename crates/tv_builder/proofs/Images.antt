-- The heap after a state, as its parts come.
use Rattle.std.proofs.Common.{◌≡◌, ℕ, zero, suc, ◌+◌, ◌*◌, List, [], ◌∷◌, ◌++◌, length, drop, None, refl, sym, ◌∙◌, ap, append_assoc, length-append, arith}
use Rattle.std.proofs.Math.Seq.{drop-append_seam, take-append_seam}
use Rattle.std.proofs.lemmas.List.{append-nil}
use Rattle.tv_base.specs.Number.{vnum}
use Rattle.tv_base.specs.Parts.{short_sized}
use Rattle.tv_format.specs.Tree.{Tree, leaf, text, elements, entries}
use Rattle.tv_builder.specs.declared.building.Building.{Building}
use Rattle.tv_builder.specs.declared.kinds.ListKind.{ListKind}
use Rattle.tv_builder.specs.declared.kinds.ListKind.TheVariants.{Array, Object}
use Rattle.tv_heap.specs.declared.value_type.Place.{Place}
use Rattle.tv_builder.specs.Given.{Given, given, place_bytes, one_more}
use Rattle.tv_builder.specs.Image.{lists_places, list_frame, lists_frames, held, image_of}
use Rattle.tv_builder.specs.StateHeap.{lists_heap, state_heap}
use Rattle.tv_builder.specs.Kinds.{list_type, total}
use Rattle.tv_builder.specs.Moves.{given_to, GivesPlace}
use Rattle.tv_builder.specs.State.{OpenList, State, complete, in_lists, in_bytes, with_child, with_value, list_tree, pairs_of, StartsWithKey, AreChildren, AreLists}
use Rattle.tv_builder.specs.TreeBytes.{tree_heap, tree_place, elements_heap, elements_places, entries_heap, entries_places}
use Rattle.tv_builder.proofs.Giving.{Comes, comes, below, not_below, tested, given_waits, given_closes, value_waits, value_closes}

-- ---- a list with one child more

pub heap_join : (heap : List ℕ) (ts us : List Tree) → elements_heap heap (elements (ts ++ us)) ≡ elements_heap (elements_heap heap (elements ts)) (elements us)
heap_join heap [] us = refl
heap_join heap (t ∷ ts) us = heap_join (tree_heap heap t) ts us

pub places_push : (heap : List ℕ) (ts : List Tree) (t : Tree) → elements_places heap (elements (ts ++ t ∷ [])) ≡ elements_places heap (elements ts) ++ place_bytes (tree_place (elements_heap heap (elements ts)) t)
places_push heap [] t = append-nil (place_bytes (tree_place heap t))
places_push heap (u ∷ ts) t =
    let next = tree_heap heap u in
    ap (λ z. place_bytes (tree_place heap u) ++ z) (places_push next ts t) ∙
    sym (append_assoc (place_bytes (tree_place heap u)) (elements_places next (elements ts)) (place_bytes (tree_place (elements_heap next (elements ts)) t)))

abbrev child_comes : List ℕ → OpenList → List OpenList → Tree → Given
child_comes base l ls t = record {
  heap = tree_heap (lists_heap base (l ∷ ls)) t;
  places = lists_places base (l ∷ ls) ++ place_bytes (tree_place (lists_heap base (l ∷ ls)) t);
  frames = one_more (list_frame base l ls) ∷ lists_frames base ls;
  complete = None;
}

pub child_image : (base : List ℕ) (l : OpenList) (ls : List OpenList) (t : Tree) → child_comes base l ls t ≡ image_of base (in_lists (with_child l t ∷ ls))
child_image base l ls t =
    let outer = lists_heap base ls in
    let own = elements_places outer (elements l.children) in
    let more : length l.children + 1 ≡ length (l.children ++ t ∷ []) = omega (arith, length-append l.children (t ∷ [])) in
    λ i. record {
      heap = sym (heap_join outer l.children (t ∷ [])) i;
      places = (append_assoc (lists_places base ls) own (place_bytes (tree_place (elements_heap outer (elements l.children)) t)) ∙ ap (λ z. lists_places base ls ++ z) (sym (places_push outer l.children t))) i;
      frames = record { kind = l.kind; announced = l.announced; finished = more i; first = length (lists_places base ls) } ∷ lists_frames base ls;
      complete = None;
    }

-- ---- a list that has all its children

-- keys are written as texts
entries_same : (m : ℕ) (heap : List ℕ) (ts : List Tree) → length ts ≡ 2 * m → StartsWithKey ts
    → (entries_heap heap (entries (pairs_of ts)) ≡ elements_heap heap (elements ts)) × (entries_places heap (entries (pairs_of ts)) ≡ elements_places heap (elements ts))
entries_same m heap [] e are = (refl, refl)
entries_same m heap (k ∷ []) e are = absurd (omega (arith, e))
entries_same zero heap (k ∷ t ∷ ts) e are = absurd (omega (arith, e))
entries_same (suc m) heap (leaf (text k) ∷ t ∷ ts) e are =
    let mid = heap ++ short_sized k in
    let r = entries_same m (tree_heap mid t) ts (omega (arith, e)) are.1 in
    (r.0, ap (λ z. (1 ∷ vnum (length heap)) ++ (place_bytes (tree_place mid t) ++ z)) r.1)
entries_same (suc m) heap (k ∷ t ∷ ts) e are = absurd are.0

-- what is written of the list, and where it stands
pub list_heap_is : (kind : ListKind) (n : ℕ) (heap : List ℕ) (ts : List Tree) → length ts ≡ total kind n → AreChildren kind ts
    → (tree_heap heap (list_tree kind ts) ≡ elements_heap heap (elements ts) ++ short_sized (elements_places heap (elements ts)))
    × (tree_place heap (list_tree kind ts) ≡ record { value_type = list_type kind; address = length (elements_heap heap (elements ts)) })
list_heap_is Array n heap ts e are = (refl, refl)
list_heap_is Object n heap ts e are =
    let r = entries_same n heap ts e are in
    ((λ i. r.0 i ++ short_sized (r.1 i)), (λ i. record { value_type = list_type Object; address = length (r.0 i) }))

-- ---- a finished value

pub given_image : (base : List ℕ) (ls : List OpenList) (t : Tree) → AreLists ls → Comes ls t
    → given (tree_heap (lists_heap base ls) t) (lists_places base ls) (lists_frames base ls) (tree_place (lists_heap base ls) t) ≡ image_of base (with_value ls t)
given_image base [] t are next = refl
given_image base (l ∷ ls) t are next = elim (tested (suc (length l.children)) (total l.kind l.announced)) [
  | below lt e ↦
      given_waits (tree_heap (lists_heap base (l ∷ ls)) t) (lists_places base (l ∷ ls)) (list_frame base l ls) (lists_frames base ls) (tree_place (lists_heap base (l ∷ ls)) t) e ∙ child_image base l ls t ∙
      ap (λ s. image_of base s) (sym (value_waits l ls t e))
  | not_below le e ↦
      let outer = lists_heap base ls in
      let places = lists_places base ls in
      let own = elements_places outer (elements l.children) in
      let p = tree_place (lists_heap base (l ∷ ls)) t in
      let ts = l.children ++ t ∷ [] in
      let all : length ts ≡ total l.kind l.announced = omega (arith, length-append l.children (t ∷ []), are.0.lacks, le) in
      let u = list_tree l.kind ts in
      let whole = list_heap_is l.kind l.announced outer ts all next.0 in
      let own_is : drop (length places) ((places ++ own) ++ place_bytes p) ≡ elements_places outer (elements ts) =
      ap (λ z. drop (length places) z) (append_assoc places own (place_bytes p)) ∙ drop-append_seam places (own ++ place_bytes p) ∙ sym (places_push outer l.children t) in
      let heap_is : tree_heap (lists_heap base (l ∷ ls)) t ≡ elements_heap outer (elements ts) = sym (heap_join outer l.children (t ∷ [])) in
      given_closes (tree_heap (lists_heap base (l ∷ ls)) t) (lists_places base (l ∷ ls)) (list_frame base l ls) (lists_frames base ls) p e ∙
      (λ i. given (heap_is i ++ short_sized (own_is i)) (take-append_seam places own i) (lists_frames base ls) (record { value_type = list_type l.kind; address = length (heap_is i) })) ∙
      (λ i. given (sym whole.0 i) places (lists_frames base ls) (sym whole.1 i)) ∙ given_image base ls u are.1 (comes ls u are.1 next.1) ∙ ap (λ s. image_of base s) (sym (value_closes l ls t e))
]

-- handed over
pub gives_held : (mid new : Building) (p : Place) → GivesPlace mid p new → held new ≡ given_to mid p
gives_held mid new p g = λ i. record { heap = g.heap i; places = g.places i; frames = g.frames i; complete = g.complete i }

-- a value that was written after these lists
pub value_image : (base : List ℕ) (ls : List OpenList) (t : Tree) (g : Given) → AreLists ls → Comes ls t → g ≡ image_of base (in_lists ls)
    → given (tree_heap g.heap t) g.places g.frames (tree_place g.heap t) ≡ image_of base (with_value ls t)
value_image base ls t g are next is = ap (λ (z : Given). given (tree_heap z.heap t) z.places z.frames (tree_place z.heap t)) is ∙ given_image base ls t are next

pub image_heap : (base : List ℕ) (s : State) → (image_of base s).heap ≡ state_heap base s
image_heap base (complete t) = refl
image_heap base (in_lists ls) = refl
image_heap base (in_bytes ls kind n bs) = refl
