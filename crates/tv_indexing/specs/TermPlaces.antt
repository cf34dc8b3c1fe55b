-- Terms that stand in one list of bytes, each at a place of its own.
use Rattle.std.specs.Prelude.{◌≡◌, ◌+◌, ◌≤◌, ℕ, List, [], ◌∷◌, drop, length, map, slice_range, take}
use Rattle.std.specs.List.{All}
use Rattle.tv_indexing.specs.declared.term_list.MovedTerms.{MovedTerms}
use Rattle.tv_indexing.specs.declared.term_list.TermPlace.{TermPlace}

abbrev pub place : ℕ → ℕ → TermPlace
place start end = record { start = start; end = end }

-- the bytes at a place
abbrev pub bytes_at : List ℕ → TermPlace → List ℕ
bytes_at bytes place = slice_range bytes place.start place.end

-- the bytes at each place
abbrev pub pieces : List ℕ → List TermPlace → List (List ℕ)
pieces bytes places = map (bytes_at bytes) places

-- the place lies within this many bytes, and has room for a field and the code of a type
pub record IsWithin (total : ℕ) (place : TermPlace) : Type 0 where
  pub long : place.start + 5 ≤ place.end
  pub inside : place.end ≤ total

-- each place begins where the one before it ends, the first one here, and the last one ends where the bytes
-- do
abbrev pub AreBehind : ℕ → List TermPlace → ℕ → Type 0
AreBehind start [] total = start ≡ total
AreBehind start (place ∷ places) total = (place.start ≡ start) × (place.start + 5 ≤ place.end)
    × AreBehind place.end places total

-- where the last of them ends
abbrev pub end_of : ℕ → List TermPlace → ℕ
end_of start [] = start
end_of start (place ∷ places) = end_of place.end places

-- The first places, which were moved, lie anywhere within the first bytes. The others stand one after the
-- other, up to the end of the bytes.
pub record ArePlacesHeld (bytes : List ℕ) (places : List TermPlace) (moved : MovedTerms) : Type 0 where
  pub moved_within : All (IsWithin moved.bytes) (take moved.len places)
  pub others_behind : AreBehind moved.bytes (drop moved.len places) (length bytes)
  pub few_moved : moved.len ≤ length places
