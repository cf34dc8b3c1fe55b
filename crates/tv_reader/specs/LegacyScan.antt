-- What the code keeps while it scans a legacy object.
use Rattle.std.specs.Prelude.{◌==◌, ℕ, [], ◌∷◌}
use Rattle.std.specs.List.{count_by}
use Rattle.tv_reader.specs.Legacy.{BytePlace, outside, inside, escaped, bare}
use Rattle.tv_reader.specs.declared.legacy.Position.{Position}
use Rattle.tv_reader.specs.declared.legacy.Position.TheVariants as positions

abbrev pub place_of : Position → BytePlace
place_of positions.Outside = outside
place_of positions.Inside = inside
place_of positions.Escaped = escaped

-- how many braces of this kind one byte is, at this place
abbrev pub brace_count : ℕ → BytePlace → ℕ → ℕ
brace_count brace place b = count_by (λ c. c == brace) (bare place (b ∷ []))
