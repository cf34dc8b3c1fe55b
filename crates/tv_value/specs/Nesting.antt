-- How deep the lists of trees nest. A list is an array or an object.
use Rattle.std.specs.Prelude.{ℕ, zero, suc}
use Rattle.std.specs.List.{AllByRecursion}
use Rattle.tv_format.specs.Tree.{Tree, leaf, array, object, Elements, no_elements, element, Entries}
use Rattle.tv_format.specs.Tree.{no_entries, entry, Document}

-- A leaf nests within any number, and a list within one more than each of its children. No list nests within
-- 0.
abbrev mutual
  pub NestsWithin : ℕ → Tree → Type 0
  NestsWithin n (leaf l) = Unit {0}
  NestsWithin zero (array ts) = ⊥
  NestsWithin (suc n) (array ts) = ElementsNestWithin n ts
  NestsWithin zero (object es) = ⊥
  NestsWithin (suc n) (object es) = EntriesNestWithin n es

  pub ElementsNestWithin : ℕ → Elements → Type 0
  ElementsNestWithin n no_elements = Unit {0}
  ElementsNestWithin n (element t ts) = NestsWithin n t × ElementsNestWithin n ts

  pub EntriesNestWithin : ℕ → Entries → Type 0
  EntriesNestWithin n no_entries = Unit {0}
  EntriesNestWithin n (entry k t es) = NestsWithin n t × EntriesNestWithin n es

-- each pair's tree does
abbrev pub AllNestWithin : ℕ → Document → Type 0
AllNestWithin n document = AllByRecursion (λ pair. NestsWithin n pair.1) document
