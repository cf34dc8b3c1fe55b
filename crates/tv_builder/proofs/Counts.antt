-- What is seen of a building's state.
use Rattle.std.proofs.Common.{◌≡◌, ℕ, List, [], ◌∷◌, length, take, Option, refl, sym, ◌∙◌, ap, arith}
use Rattle.std.specs.Coded.{Coded-set}
use Rattle.std.proofs.Math.Logic.{∥∥₁_elim}
use Rattle.std.proofs.Math.Nat.{ℕ_set}
use Rattle.std.proofs.lemmas.List.{length-reverse}
use Rattle.tv_builder.specs.contracts.kinds.Awaits.{the_row}
use Rattle.tv_builder.specs.declared.building.Building.{Building}
use Rattle.tv_builder.specs.declared.building.OpenBytes.{OpenBytes}
use Rattle.tv_builder.specs.declared.building.Frame.{Frame}
use Rattle.tv_heap.specs.declared.value_type.Place.{Place}
use Rattle.tv_builder.specs.Given.{pending_in}
use Rattle.tv_builder.specs.Shows.{ShowsLists, ShowsAt, HoldsSomeState, frames_of, awaited_by}
use Rattle.tv_builder.specs.State.{OpenList, State, complete, in_lists, in_bytes, awaited, lists_of, children_of}
use Rattle.tv_builder.proofs.Sound.{awaited_same}

pub awaited_is : (b : Building) (h : HoldsSomeState b) → awaited_by b ≡ awaited h.0
awaited_is b h = ∥∥₁_elim h.1 (Coded-set the_row.coded _ _) (λ s. awaited_same b.heap.items (frames_of b) b.places.items b.complete b.open h.0 s.at)

-- ---- counts

lists_counted : (heap : List ℕ) (fs : List Frame) (places : List ℕ) (ls : List OpenList) → ShowsLists heap fs places ls → (length fs ≡ length ls) × (pending_in fs ≡ children_of ls)
lists_counted heap [] places [] h = (refl, refl)
lists_counted heap (f ∷ fs) places (l ∷ ls) h = let r = lists_counted heap fs (take f.first places) ls h.1 in (omega (arith, r.0), omega (arith, r.1, h.0.counted))
lists_counted heap [] places (l ∷ ls) h = absurd h
lists_counted heap (f ∷ fs) places [] h = absurd h

at_counted : (heap : List ℕ) (fs : List Frame) (places : List ℕ) (whole : Option Place) (bytes : Option OpenBytes) (s : State) → ShowsAt heap fs places whole bytes s → (length fs ≡ length (lists_of s)) × (pending_in fs ≡ children_of (lists_of s))
at_counted heap fs places whole bytes (complete t) h = (ap length h.frames, ap pending_in h.frames)
at_counted heap fs places whole bytes (in_lists ls) h = lists_counted heap fs places ls h.lists
at_counted heap fs places whole bytes (in_bytes ls kind n bs) h = lists_counted heap fs places ls h.lists

pub pending_is : (b : Building) (h : HoldsSomeState b) → b.pending ≡ children_of (lists_of h.0)
pending_is b h = ∥∥₁_elim h.1 (ℕ_set _ _) (λ s. s.counted ∙ (at_counted b.heap.items (frames_of b) b.places.items b.complete b.open h.0 s.at).1)

pub frames_are : (b : Building) (h : HoldsSomeState b) → length b.frames.items ≡ length (lists_of h.0)
frames_are b h = ∥∥₁_elim h.1 (ℕ_set _ _) (λ s. sym (length-reverse b.frames.items) ∙ (at_counted b.heap.items (frames_of b) b.places.items b.complete b.open h.0 s.at).0)
