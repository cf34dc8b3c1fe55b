-- All that a building holds for a state, after what stood in the heap before.
use Rattle.std.specs.Prelude.{◌≡◌, ℕ, List, [], ◌∷◌, ◌++◌, length, Some, None}
use Rattle.tv_base.specs.Number.{vnum}
use Rattle.tv_format.specs.Tree.{elements}
use Rattle.tv_builder.specs.declared.building.Building.{Building}
use Rattle.tv_builder.specs.declared.building.Frame.{Frame}
use Rattle.tv_builder.specs.Given.{Given}
use Rattle.tv_builder.specs.Shows.{ShowsState, frames_of}
use Rattle.tv_builder.specs.State.{OpenList, State, complete, in_lists, in_bytes}
use Rattle.tv_builder.specs.StateHeap.{lists_heap}
use Rattle.tv_builder.specs.TreeBytes.{tree_heap, tree_place, elements_places}

-- the places of the children of open lists
abbrev pub lists_places : List ℕ → List OpenList → List ℕ
lists_places base [] = []
lists_places base (l ∷ ls) = lists_places base ls ++ elements_places (lists_heap base ls)
    (elements l.children)

abbrev pub list_frame : List ℕ → OpenList → List OpenList → Frame
list_frame base list lists = record {
  kind = list.kind;
  announced = list.announced;
  finished = length list.children;
  first = length (lists_places base lists);
}

abbrev pub lists_frames : List ℕ → List OpenList → List Frame
lists_frames base [] = []
lists_frames base (l ∷ ls) = list_frame base l ls ∷ lists_frames base ls

-- the heap, the places of finished children, the open lists from the innermost, and where the complete value
-- stands
abbrev pub held : Building → Given
held building = record {
  heap = building.heap.items;
  places = building.places.items;
  frames = frames_of building;
  complete = building.complete;
}

abbrev pub image_of : List ℕ → State → Given
image_of base (complete t) = record {
  heap = tree_heap base t;
  places = [];
  frames = [];
  complete = Some (tree_place base t);
}
image_of base (in_lists ls) = record {
  heap = lists_heap base ls;
  places = lists_places base ls;
  frames = lists_frames base ls;
  complete = None;
}
image_of base (in_bytes ls kind n bs) = record {
  heap = lists_heap base ls ++ (vnum n ++ bs);
  places = lists_places base ls;
  frames = lists_frames base ls;
  complete = None;
}

-- the state stands there, and all that a building holds is that state after this heap
pub record ShowsBehind (base : List ℕ) (building : Building) (state : State) : Type 0 where
  pub shows : ShowsState building state
  pub image : held building ≡ image_of base state
