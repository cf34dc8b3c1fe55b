-- What a part writes itself, and whether that fits after a heap, whether or not the lists that it closes do.
use Rattle.std.specs.Prelude.{◌≡◌, ℕ, ◌+◌, ◌≤◌, List, [], ◌++◌, length}
use Rattle.tv_base.specs.Number.{vnum}
use Rattle.tv_base.specs.Parts.{short_sized}
use Rattle.tv_format.specs.Tree.{Leaf}
use Rattle.tv_heap.specs.LeafBytes.{leaf_bytes}

abbrev pub LeafFits : List ℕ → Leaf → Type 0
LeafFits heap the_leaf = length (heap ++ leaf_bytes the_leaf) ≤ 4294967295

abbrev pub KeyFits : List ℕ → List ℕ → Type 0
KeyFits heap content = length (heap ++ short_sized content) ≤ 4294967295

-- the head of bytes, with all that it announces
abbrev pub HeadFits : List ℕ → ℕ → Type 0
HeadFits heap n = length heap + (length (vnum n) + n) ≤ 4294967295

-- a list of none
abbrev pub ListFits : List ℕ → ℕ → Type 0
ListFits heap n = n ≡ 0 → length (heap ++ short_sized []) ≤ 4294967295
