-- Which state a heap, the places of finished children and the open lists hold.
use Rattle.std.specs.Prelude.{◌≡◌, ◌≢◌, ℕ, ◌+◌, ◌<◌, ◌≤◌, ◌^◌, List, [], ◌∷◌, ◌++◌, length, reverse, take}
use Rattle.std.specs.Prelude.{drop, Option, Some, None}
use Rattle.tv_base.specs.Number.{vnum}
use Rattle.tv_format.specs.Tree.{Tree, elements}
use Rattle.tv_heap.specs.Reads.{ReadsTree, ReadsElements}
use Rattle.tv_heap.specs.TypeCode.{type_code}
use Rattle.tv_builder.specs.declared.kinds.Awaits.{Awaits}
use Rattle.tv_builder.specs.declared.kinds.Awaits.TheVariants as awaits
use Rattle.tv_builder.specs.declared.building.Building.{Building}
use Rattle.tv_builder.specs.declared.building.OpenBytes.{OpenBytes}
use Rattle.tv_builder.specs.declared.kinds.BytesKind.{BytesKind}
use Rattle.tv_builder.specs.declared.building.Frame.{Frame}
use Rattle.tv_heap.specs.declared.value_type.Place.{Place}
use Rattle.tv_builder.specs.Given.{pending_in}
use Rattle.tv_builder.specs.State.{OpenList, State, complete, in_lists, in_bytes, next_at, IsState}

-- A tree stands there. Unless it is null or a truth value, it has bytes below the heap's end.
pub record Placed (heap : List ℕ) (place : Place) (tree : Tree) : Type 0 where
  pub reads : ReadsTree heap (type_code place.value_type) place.address tree
  pub below : type_code place.value_type ≢ 0 → type_code place.value_type ≢ 9 → place.address < length heap
  pub fits : place.address < 2 ^ 32

-- An open list, whose finished children stand at the last places. A key stands there as a text.
pub record ShowsList (heap places : List ℕ) (frame : Frame) (list : OpenList) : Type 0 where
  pub same_kind : list.kind ≡ frame.kind
  pub same_announced : list.announced ≡ frame.announced
  pub counted : length list.children ≡ frame.finished
  pub cut : frame.first ≤ length places
  pub reads : ReadsElements heap (length heap) (drop frame.first places) (elements list.children)

-- all open lists, from the innermost
abbrev pub ShowsLists : List ℕ → List Frame → List ℕ → List OpenList → Type 0
ShowsLists heap [] places [] = places ≡ []
ShowsLists heap (f ∷ fs) places (l ∷ ls) = ShowsList heap places f l
    × ShowsLists heap fs (take f.first places) ls
ShowsLists heap _ places _ = ⊥

-- The bytes so far are the heap's last, after the shortest encoding of their length, and there is room for
-- the others.
pub record BytesStand (heap : List ℕ) (piece : OpenBytes) (announced : ℕ) (so_far : List ℕ) : Type 0 where
  pub before : List ℕ
  pub joined : heap ≡ before ++ (vnum announced ++ so_far)
  pub place : length before ≡ piece.address
  pub counted : length so_far + piece.missing ≡ announced
  pub fits : length before + (length (vnum announced) + announced) ≤ 4294967295

pub record ShowsTree (heap : List ℕ) (fs : List Frame) (places : List ℕ) (whole : Option Place)
    (bytes : Option OpenBytes) (tree : Tree) : Type 0 where
  pub at : Place
  pub is : whole ≡ Some at
  pub placed : Placed heap at tree
  pub frames : fs ≡ []
  pub places_none : places ≡ []
  pub closed : bytes ≡ None

pub record ShowsOpen (heap : List ℕ) (fs : List Frame) (places : List ℕ) (whole : Option Place)
    (bytes : Option OpenBytes) (ls : List OpenList) : Type 0 where
  pub none : whole ≡ None
  pub closed : bytes ≡ None
  pub lists : ShowsLists heap fs places ls

pub record ShowsBytes (heap : List ℕ) (fs : List Frame) (places : List ℕ) (whole : Option Place)
    (bytes : Option OpenBytes) (ls : List OpenList) (kind : BytesKind) (total : ℕ) (so_far : List ℕ) :
    Type 0 where
  pub none : whole ≡ None
  pub piece : OpenBytes
  pub is : bytes ≡ Some piece
  pub same_kind : piece.kind ≡ kind
  pub same_announced : piece.announced ≡ total
  pub stand : BytesStand heap piece total so_far
  pub lists : ShowsLists heap fs places ls

abbrev pub ShowsAt : List ℕ → List Frame → List ℕ → Option Place → Option OpenBytes → State → Type 0
ShowsAt heap fs places whole bytes (complete t) = ShowsTree heap fs places whole bytes t
ShowsAt heap fs places whole bytes (in_lists ls) = ShowsOpen heap fs places whole bytes ls
ShowsAt heap fs places whole bytes (in_bytes ls kind n so_far) =
    ShowsBytes heap fs places whole bytes ls kind n so_far

-- the frames from the innermost
abbrev pub frames_of : Building → List Frame
frames_of building = reverse building.frames.items

-- all of the state stands there
pub record ShowsState (building : Building) (state : State) : Type 0 where
  pub fits : length building.heap.items ≤ 4294967295
  pub counted : building.pending ≡ pending_in (frames_of building)
  pub is : IsState state
  pub at : ShowsAt building.heap.items (frames_of building) building.places.items building.complete
      building.open state

-- the state that a builder holds
abbrev pub HoldsSomeState : Building → Type 0
HoldsSomeState building = (s : State) × ∥ ShowsState building s ∥₁

-- ---- what comes next, as the code has it

abbrev pub next_frame : List Frame → Awaits
next_frame [] = awaits.Value
next_frame (f ∷ fs) = next_at f.kind f.finished

abbrev pub awaited_at : Option OpenBytes → Option Place → List Frame → Awaits
awaited_at (Some o) whole fs = awaits.Bytes o.missing
awaited_at None (Some p) fs = awaits.Finish
awaited_at None None fs = next_frame fs

abbrev pub awaited_by : Building → Awaits
awaited_by building = awaited_at building.open building.complete (frames_of building)
