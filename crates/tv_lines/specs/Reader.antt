-- What a reader of lines takes.
use Rattle.std.specs.Prelude.{◌≡◌, ◌≢◌, ℕ, ◌+◌, ◌-◌, ◌^◌, Bool, true, false, List, [], ◌∷◌, ◌++◌, Option}
use Rattle.std.specs.Prelude.{Some, None, length, slice_range}
use Rattle.tv_lines.specs.Lines.{IsUnbroken, FirstLine}
use Rattle.tv_lines.specs.declared.line_reader.LineReader.{LineReader}

-- the bytes that were read and belong to no line yet
abbrev pub unread : LineReader → List ℕ
unread r = slice_range r.piece.items r.from r.to

-- The next line of an input and what stands after it: with its line feed it takes `count` bytes. Or there is
-- none.
abbrev pub TakesLine : List ℕ → List ℕ → List ℕ → Option ℕ → Type 0
TakesLine input line rest (Some count) = (input ≢ []) × FirstLine input line rest
    × (length input ≡ count + length rest)
TakesLine input line rest None = (input ≡ []) × (line ≡ []) × (rest ≡ [])

-- ---- for private clauses

-- how many bytes can still be taken: those that were read, and those that can be counted
abbrev pub most_left : LineReader → ℕ
most_left r = (2 ^ 64 - 1 - r.count) + length (unread r)

-- what went from some bytes to the line: all before the first line feed, which was passed, or some that have
-- none
abbrev pub MovesLine : List ℕ → List ℕ → List ℕ → List ℕ → Bool → Type 0
MovesLine old new before after true = (piece : List ℕ) × IsUnbroken piece × (old ≡ piece ++ 10 ∷ new)
    × (after ≡ before ++ piece)
MovesLine old new before after false = (piece : List ℕ) × IsUnbroken piece × (old ≡ piece ++ new)
    × (after ≡ before ++ piece)

-- what was read, or that there was nothing left
abbrev pub ReadsSome : List ℕ → List ℕ → List ℕ → Bool → Type 0
ReadsSome left_old left_new read true = left_old ≡ read ++ left_new
ReadsSome left_old left_new read false = (left_old ≡ []) × (left_new ≡ []) × (read ≡ [])
