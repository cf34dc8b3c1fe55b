-- Paths into JSON objects: segments with dots between them. 46 is the dot, 92 the backslash, 1 what separates
-- joined segments.
use Rattle.std.specs.Prelude.{ℕ, suc, zero, ◌==◌, ◌&&◌, Bool, if◌then◌else◌, List, [], ◌∷◌, ◌++◌, length, map}
use Rattle.std.specs.Prelude.{slice_index}
use Rattle.std.specs.List.{flat_map, slice_split, join_with_byte}
use Rattle.tv_base.specs.Escapes.{is_unescaped, kept_byte}

-- each byte below the place, after whether it is unescaped
abbrev pub marked_below : List ℕ → ℕ → List (Bool × ℕ)
marked_below text zero = []
marked_below text (suc place) = marked_below text place ++ (is_unescaped text place, slice_index text place)
    ∷ []

abbrev pub marked : List ℕ → List (Bool × ℕ)
marked text = marked_below text (length text)

abbrev pub is_splitting : Bool × ℕ → Bool
is_splitting mark = mark.0 && (mark.1 == 46)

-- the texts between the unescaped dots, without their unescaped backslashes
abbrev pub split : List ℕ → List (List ℕ)
split path = map (flat_map (λ mark. kept_byte mark.0 mark.1)) (slice_split is_splitting (marked path))

-- where dots are expanded, a dot of a segment separates too
abbrev pub expanded : Bool → ℕ → ℕ
expanded expand_dots b = if expand_dots && (b == 46) then 1 else b

-- the segments, with a byte 1 between each two of them
abbrev pub joined : Bool → List (List ℕ) → List ℕ
joined expand_dots segments = join_with_byte 1 (map (map (expanded expand_dots)) segments)

-- a path as the terms of its values have it
abbrev pub joined_path : Bool → List ℕ → List ℕ
joined_path expand_dots path = joined expand_dots (split path)
