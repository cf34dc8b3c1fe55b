-- What holds of a building that holds a state.
use Rattle.std.proofs.Common.{◌≡◌, ℕ, zero, suc, ◌%◌, ◌≤◌, nat_eq, List, [], ◌∷◌, length, take, Option, Some, None, refl, sym, ◌∙◌, ap, subst, arith, inl, inr}
use Rattle.std.specs.Coded.{le_prop}
use Rattle.std.proofs.Math.Logic.{∥∥₁_elim, ∥∥₁_map}
use Rattle.std.proofs.Math.Nat.{ℕ_set}
use Rattle.std.proofs.lemmas.Bool.{cond-true, cond-false}
use Rattle.std.proofs.lemmas.Bool.Decides.{eqb_tells}
use Rattle.std.proofs.lemmas.List.{length-drop}
use mathlib.Core.HLevel.{⊥_prop}
use Rattle.tv_builder.specs.declared.kinds.Awaits.{Awaits}
use Rattle.tv_builder.specs.declared.kinds.Awaits.TheVariants as awaits
use Rattle.tv_builder.specs.declared.building.Building.{Building}
use Rattle.tv_builder.specs.declared.building.OpenBytes.{OpenBytes}
use Rattle.tv_builder.specs.declared.building.Frame.{Frame}
use Rattle.tv_builder.specs.declared.kinds.ListKind.{ListKind}
use Rattle.tv_builder.specs.declared.kinds.ListKind.TheVariants.{Array, Object}
use Rattle.tv_heap.specs.declared.value_type.Place.{Place}
use Rattle.tv_builder.specs.Given.{AreCut, pending_in}
use Rattle.tv_builder.specs.Kinds.{total}
use Rattle.tv_builder.specs.Moves.{CanGive}
use Rattle.tv_builder.specs.Shows.{ShowsLists, ShowsAt, HoldsSomeState, frames_of, next_frame, awaited_at, awaited_by}
use Rattle.tv_builder.specs.State.{OpenList, State, complete, in_lists, in_bytes, next_at, next_in, awaited, AreLists, AllAwait, OthersAwait, IsState, IsValueNext, IsKeyNext}
use Rattle.tv_builder.proofs.Children.{elements_bytes}

-- ---- lists

pub lists_cut : (heap : List ℕ) (fs : List Frame) (places : List ℕ) (ls : List OpenList) → AreLists ls → ShowsLists heap fs places ls → AreCut fs places
lists_cut heap [] places ls are h = tt
lists_cut heap (f ∷ fs) places [] are h = absurd h
lists_cut heap (f ∷ fs) places (l ∷ ls) are h =
    let same : total l.kind l.announced ≡ total f.kind f.announced = λ i. total (h.0.same_kind i) (h.0.same_announced i) in
    (h.0.cut, omega (arith, elements_bytes heap (length heap) _ l.children h.0.reads, h.0.counted), omega (arith, are.0.lacks, h.0.counted, same), lists_cut heap fs (take f.first places) ls are.1 h.1)

at_cut : (heap : List ℕ) (fs : List Frame) (places : List ℕ) (whole : Option Place) (bytes : Option OpenBytes) (s : State) → IsState s → ShowsAt heap fs places whole bytes s → AreCut fs places
at_cut heap fs places whole bytes (complete t) is h = subst (λ z. AreCut z places) (sym h.frames) tt
at_cut heap fs places whole bytes (in_lists ls) is h = lists_cut heap fs places ls is.0 h.lists
at_cut heap fs places whole bytes (in_bytes ls kind n bs) is h = lists_cut heap fs places ls is.0 h.lists

cut_prop : (fs : List Frame) (places : List ℕ) → IsProp (AreCut fs places)
cut_prop [] places x y = refl
cut_prop (f ∷ fs) places x y = λ i. (le_prop x.0 y.0 i, le_prop x.1 y.1 i, le_prop x.2 y.2 i, cut_prop fs (take f.first places) x.3 y.3 i)

pub cut_of : (b : Building) → HoldsSomeState b → AreCut (frames_of b) b.places.items
cut_of b h = ∥∥₁_elim h.1 (cut_prop (frames_of b) b.places.items) (λ s. at_cut b.heap.items (frames_of b) b.places.items b.complete b.open h.0 s.is s.at)

pub fits_of : (b : Building) → HoldsSomeState b → length b.heap.items ≤ 4294967295
fits_of b h = ∥∥₁_elim h.1 le_prop (λ s. s.fits)

pub counted_of : (b : Building) → HoldsSomeState b → b.pending ≡ pending_in (frames_of b)
counted_of b h = ∥∥₁_elim h.1 (ℕ_set _ _) (λ s. s.counted)

-- a place for each that is pending
pub pending_small : (fs : List Frame) (places : List ℕ) → AreCut fs places → pending_in fs ≤ length places
pending_small [] places h = omega arith
pending_small (f ∷ fs) places h = omega (arith, h.0, h.1, pending_small fs (take f.first places) h.3, length-drop f.first places, take_small f.first places)
  where
    take_small : (n : ℕ) (xs : List ℕ) → length (take n xs) ≤ n
    take_small zero xs = omega arith
    take_small (suc n) [] = omega arith
    take_small (suc n) (x ∷ xs) = omega (arith, take_small n xs)

-- ---- what comes next

next_same : (heap : List ℕ) (fs : List Frame) (places : List ℕ) (ls : List OpenList) → ShowsLists heap fs places ls → next_frame fs ≡ next_in ls
next_same heap [] places [] h = refl
next_same heap (f ∷ fs) places (l ∷ ls) h = λ i. next_at (sym h.0.same_kind i) (sym h.0.counted i)
next_same heap [] places (l ∷ ls) h = absurd h
next_same heap (f ∷ fs) places [] h = absurd h

pub awaited_same : (heap : List ℕ) (fs : List Frame) (places : List ℕ) (whole : Option Place) (bytes : Option OpenBytes) (s : State) → ShowsAt heap fs places whole bytes s → awaited_at bytes whole fs ≡ awaited s
awaited_same heap fs places whole bytes (complete t) h = λ i. awaited_at (h.closed i) (h.is i) fs
awaited_same heap fs places whole bytes (in_lists ls) h = (λ i. awaited_at (h.closed i) (h.none i) fs) ∙ next_same heap fs places ls h.lists
awaited_same heap fs places whole bytes (in_bytes ls kind n bs) h =
    (λ i. awaited_at (h.is i) whole fs) ∙ ap awaits.Bytes (omega (arith, h.stand.counted))

pub next_value : (kind : ListKind) (n : ℕ) → next_at kind n ≡ awaits.Value → IsValueNext kind n
next_value Array n e = tt
next_value Object n e = elim (eqb_tells (n % 2) 0) [
  | inl p ↦ absurd (let f = cond-true (nat_eq (n % 2) 0) awaits.Key awaits.Value p.0 in let g : awaits.Key ≡ awaits.Value = sym f ∙ e in cc)
  | inr p ↦ omega (arith, p.1)
]

pub next_key : (kind : ListKind) (n : ℕ) → next_at kind n ≡ awaits.Key → IsKeyNext kind n
next_key Array n e = absurd (cc)
next_key Object n e = elim (eqb_tells (n % 2) 0) [
  | inl p ↦ p.1
  | inr p ↦ absurd (let f = cond-false (nat_eq (n % 2) 0) awaits.Key awaits.Value p.0 in let g : awaits.Value ≡ awaits.Key = sym f ∙ e in cc)
]

pub all_await : (ls : List OpenList) → next_in ls ≡ awaits.Value → OthersAwait ls → AllAwait ls
all_await [] e h = tt
all_await (l ∷ ls) e h = (next_value l.kind (length l.children) e, h)

-- ---- a value or a key can be handed over

-- this isn't the end of the whole value
abbrev pub GoesOn : Awaits → Type 0
GoesOn awaits.Finish = ⊥
GoesOn _ = Unit {0}

pub on_value : (b : Building) → awaited_by b ≡ awaits.Value → GoesOn (awaited_by b)
on_value b e = subst GoesOn (sym e) tt

pub on_key : (b : Building) → awaited_by b ≡ awaits.Key → GoesOn (awaited_by b)
on_key b e = subst GoesOn (sym e) tt

none_whole : (b : Building) → HoldsSomeState b → GoesOn (awaited_by b) → b.complete ≡ None
none_whole b h on = none_of b.complete (∥∥₁_map h.1 (λ s. none_at h.0 s.at))
  where
    none_at : (s : State) → ShowsAt b.heap.items (frames_of b) b.places.items b.complete b.open s → b.complete ≡ None
    none_at (complete t) h = absurd (subst GoesOn (awaited_same _ _ _ _ _ (complete t) h) on)
    none_at (in_lists ls) h = h.none
    none_at (in_bytes ls kind n bs) h = h.none

    none_of : (x : Option Place) → ∥ x ≡ None ∥₁ → x ≡ None
    none_of None h = refl
    none_of (Some p) h = absurd (∥∥₁_elim h ⊥_prop (λ e. absurd (cc)))

pub can_give : (b mid : Building) → HoldsSomeState b → GoesOn (awaited_by b) → length mid.heap.items ≤ 4294967295 → mid.pending ≡ b.pending → frames_of mid ≡ frames_of b → mid.places.items ≡ b.places.items → mid.complete ≡ b.complete → CanGive mid
can_give b mid h on fits pending frames places whole = record {
  fits = fits;
  counted = pending ∙ counted_of b h ∙ ap pending_in (sym frames);
  cut = subst (λ z. AreCut z mid.places.items) (sym frames) (subst (λ z. AreCut (frames_of b) z) (sym places) (cut_of b h));
  none = whole ∙ none_whole b h on;
}
