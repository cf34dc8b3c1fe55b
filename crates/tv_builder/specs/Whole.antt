-- What writing a whole value leaves.
use Rattle.std.specs.Prelude.{◌≡◌, ℕ, ◌+◌, ◌<◌, ◌≤◌, List, ◌++◌, length, Result, Ok, Err}
use Rattle.tv_base.specs.Parts.{short_sized}
use Rattle.tv_base.specs.Sink.{IsPrefix}
use Rattle.tv_format.specs.Content.{Content}
use Rattle.tv_format.specs.Leaves.{type_of, content}
use Rattle.tv_format.specs.Tree.{Leaf, Tree, leaf}
use Rattle.tv_format.specs.declared.leaf_type.LeafType.{LeafType}
use Rattle.tv_heap.specs.Room.{room}
use Rattle.tv_builder.specs.declared.errors.AddError.{AddError}
use Rattle.tv_builder.specs.declared.errors.AddError.TheVariants.{HeapFull, Memory}
use Rattle.tv_builder.specs.declared.errors.BuildError.{BuildError}
use Rattle.tv_builder.specs.declared.errors.BuildError.TheVariants as builds
use Rattle.tv_builder.specs.declared.kinds.ListKind.{ListKind}
use Rattle.tv_heap.specs.declared.value_type.Place.{Place}
use Rattle.tv_builder.specs.Kinds.{list_type}
use Rattle.tv_builder.specs.Shows.{Placed}
use Rattle.tv_builder.specs.TreeBytes.{tree_heap, tree_place}

-- it is written, and the heap is at most this long
pub record Put (most : ℕ) (old : List ℕ) (tree : Tree) (new : List ℕ) (at : Place) : Type 0 where
  pub heap : new ≡ tree_heap old tree
  pub place : at ≡ tree_place old tree
  pub fits : length new ≤ most
  pub placed : Placed new at tree

-- the leaf of this type that holds this is written, and it fits
pub record PutWith (old : List ℕ) (leaf_type : LeafType) (body : Content) (new : List ℕ)
    (at : Place) : Type 0 where
  pub prefix : IsPrefix old new
  pub put : (l : Leaf) → type_of l ≡ leaf_type → content l ≡ body → Put 4294967295 old (leaf l) new at

-- the heap would be longer, or memory was refused
abbrev pub WhyUnwritten : ℕ → List ℕ → AddError → Type 0
WhyUnwritten most heap HeapFull = most < length heap
WhyUnwritten most heap Memory = Unit {0}

-- after the first of these it isn't longer
pub record PutNot (most : ℕ) (old : List ℕ) (tree : Tree) (new : List ℕ) (error : AddError) : Type 0 where
  pub prefix : IsPrefix old new
  pub why : WhyUnwritten most (tree_heap old tree) error
  pub fits : error ≡ HeapFull → length new ≤ most

-- one of them, where the places of other children are as they were
abbrev pub Puts : ℕ → List ℕ → List ℕ → Tree → List ℕ → List ℕ → Result Place AddError → Type 0
Puts most old places tree new left (Ok p) = Put most old tree new p × (left ≡ places)
Puts most old places tree new left (Err e) = PutNot most old tree new e

-- its room, and not only its bytes, is free after the heap
pub record PutWithin (old : List ℕ) (tree : Tree) (new : List ℕ) (place : Place) : Type 0 where
  pub put : Put 4294967295 old tree new place
  pub within : length old + room tree ≤ 4294967295

-- it isn't, or memory was refused
abbrev pub WhyNotWithin : List ℕ → Tree → AddError → Type 0
WhyNotWithin old tree HeapFull = 4294967295 < length old + room tree
WhyNotWithin old tree Memory = length old + room tree ≤ 4294967295

pub record PutNotWithin (old : List ℕ) (tree : Tree) (new : List ℕ) (error : AddError) : Type 0 where
  pub prefix : IsPrefix old new
  pub why : WhyNotWithin old tree error

-- the same of a list's own bytes
pub record ListPut (most : ℕ) (old : List ℕ) (kind : ListKind) (own new : List ℕ) (at : Place) : Type 0 where
  pub heap : new ≡ old ++ short_sized own
  pub place : at ≡ record { value_type = list_type kind; address = length old }
  pub fits : length new ≤ most

pub record ListPutNot (most : ℕ) (old own new : List ℕ) (error : AddError) : Type 0 where
  pub prefix : IsPrefix old new
  pub why : WhyUnwritten most (old ++ short_sized own) error
  pub fits : error ≡ HeapFull → length new ≤ most
  pub memory : error ≡ Memory → length (old ++ short_sized own) ≤ most

-- how a builder's call says why what it was to write isn't written
abbrev pub as_refused : AddError → BuildError
as_refused HeapFull = builds.HeapFull
as_refused Memory = builds.Memory
