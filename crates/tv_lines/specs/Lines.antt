-- How an input is cut into lines: each ends at a line feed, the byte 10, and the last may lack it.
use Rattle.std.specs.Prelude.{◌≡◌, ◌≢◌, ◌+◌, ◌<◌, ℕ, List, [], ◌∷◌, ◌++◌, Option, Some, None, length, take}
use Rattle.std.specs.Prelude.{drop}
use Rattle.std.specs.List.{AllByRecursion}

-- no line feed stands there
abbrev pub IsUnbroken : List ℕ → Type 0
IsUnbroken bytes = AllByRecursion (λ b. b ≢ 10) bytes

-- the first line of an input, and what stands after its line feed
pub data FirstLine (input line rest : List ℕ) : Type 0 where
  ended : IsUnbroken line → input ≡ line ++ 10 ∷ rest → FirstLine input line rest
  unended : IsUnbroken line → input ≡ line → rest ≡ [] → FirstLine input line rest

-- The lines of an input. After the last line feed there is a line only if bytes stand there.
pub data Lines : List ℕ → List (List ℕ) → Type 0 where
  no_lines : Lines [] []
  next_line : {input line rest : List ℕ} {lines : List (List ℕ)} → input ≢ [] → FirstLine input line rest
      → Lines rest lines → Lines input (line ∷ lines)

-- ---- for private clauses

-- a piece was appended to the line: up to its first line feed, which stands at this place, or whole
abbrev pub CutsPiece : List ℕ → List ℕ → List ℕ → Option ℕ → Type 0
CutsPiece piece before after (Some len) =
    (len < length piece) × IsUnbroken (take len piece) × (piece ≡ take len piece ++ 10 ∷ drop (len + 1) piece)
    × (after ≡ before ++ take len piece)
CutsPiece piece before after None = IsUnbroken piece × (after ≡ before ++ piece)
