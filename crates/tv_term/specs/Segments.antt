-- Paths into JSON objects that are given by their segments.
use Rattle.std.specs.Prelude.{ℕ, List, map}
use Rattle.std.specs.Borrow.{Bor}
use Rattle.std.specs.List.{AllByRecursion, join_with_byte}
use Rattle.tv_term.specs.Key.{HasNoZero}

-- no segment has U+0000
abbrev pub HaveNoZero : List (Bor (List ℕ)) → Type 0
HaveNoZero segments = AllByRecursion (λ segment. HasNoZero segment.now) segments

-- the segments with a byte 1 between each two of them
abbrev pub joined_segments : List (Bor (List ℕ)) → List ℕ
joined_segments segments = join_with_byte 1 (map (λ segment. segment.now) segments)
