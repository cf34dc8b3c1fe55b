-- Reading a legacy object from left to right, after its code.
use Rattle.std.specs.Prelude.{◌≡◌, ◌==◌, ◌||◌, ℕ, Bool, List, [], ◌∷◌, ◌++◌, Result, Ok, Err, Option, Some}
use Rattle.std.specs.Prelude.{None, if◌then◌else◌}
use Rattle.std.specs.Str.{is_utf8}
use Rattle.serde_json.specs.Data as json
use Rattle.serde_json.specs.Data.{Data}
use Rattle.serde_json.specs.Read.{read}
use Rattle.tv_base.specs.Stop.{◌>>=◌}
use Rattle.tv_base.specs.declared.cause.Cause.{Cause}
use Rattle.tv_base.specs.declared.cause.Cause.TheVariants.{UnexpectedEnd, LegacyJson, LegacyFloat}
use Rattle.tv_base.specs.declared.cause.ReadError.{ReadError}
use Rattle.tv_base.specs.declared.cause.ReadError.TheVariants.{Corrupted, Io, Memory}
use Rattle.tv_reader.specs.Legacy.{opened, closed}
use Rattle.tv_value.specs.JsonTree.{json_tree}
use Rattle.tv_value.specs.Owned.{owned_tree}
use Rattle.tv_format.specs.Tree.{Tree}
use Rattle.tv_value.specs.declared.owned_value.OwnedValue.{OwnedValue}

abbrev pub is_blank : ℕ → Bool
is_blank b = (b == 9) || ((b == 10) || ((b == 13) || (b == 32)))

-- the first byte that is no blank
unfoldable pub nonblank_at : List ℕ → Result (ℕ × List ℕ) (Cause × List ℕ)
nonblank_at [] = Err (UnexpectedEnd, [])
nonblank_at (b ∷ bytes) = if is_blank b then nonblank_at bytes else Ok (b, bytes)

-- as many braces have closed as opened
abbrev pub is_even : List ℕ → Bool
is_even slice = closed slice == opened slice

-- the slice up to the brace that closes it, of which this prefix was read
unfoldable pub rest_at : List ℕ → List ℕ → Result (List ℕ × List ℕ) (Cause × List ℕ)
rest_at prefix [] = Err (UnexpectedEnd, [])
rest_at prefix (b ∷ bytes) = if is_even (prefix ++ b ∷ []) then Ok (prefix ++ b ∷ [], bytes)
    else rest_at (prefix ++ b ∷ []) bytes

abbrev pub braced_at : ℕ → List ℕ → Result (List ℕ × List ℕ) (Cause × List ℕ)
braced_at b bytes = if b == 123 then rest_at (123 ∷ []) bytes else Err (LegacyJson, bytes)

-- blanks, and then the slice
unfoldable pub slice_at : List ℕ → Result (List ℕ × List ℕ) (Cause × List ℕ)
slice_at bytes = do
  first ← nonblank_at bytes
  braced_at first.0 first.1

-- where there is no tree, a number isn't whole
abbrev pub whole_or_legacy_float : Option Tree → Result Tree Cause
whole_or_legacy_float (Some t) = Ok t
whole_or_legacy_float None = Err LegacyFloat

abbrev pub object_tree : Option Data → Result Tree Cause
object_tree (Some (json.object ms)) = whole_or_legacy_float (json_tree (json.object ms))
object_tree _ = Err LegacyJson

-- the tree of the object that a slice reads as
unfoldable pub slice_tree : List ℕ → Result Tree Cause
slice_tree slice = if is_utf8 slice then object_tree (read slice) else Err LegacyJson

-- beside the bytes that are left
abbrev pub beside : {A : Type 0} → List ℕ → Result A Cause → Result (A × List ℕ) (Cause × List ℕ)
beside rest (Ok x) = Ok (x, rest)
beside rest (Err c) = Err (c, rest)

unfoldable pub legacy_at : List ℕ → Result (Tree × List ℕ) (Cause × List ℕ)
legacy_at bytes = do
  slice ← slice_at bytes
  beside slice.1 (slice_tree slice.0)

-- what is returned for a slice
abbrev pub AnswersSlice : List ℕ → Result OwnedValue ReadError → Type 0
AnswersSlice slice (Ok value) = slice_tree slice ≡ Ok (owned_tree value)
AnswersSlice slice (Err (Corrupted c)) = slice_tree slice ≡ Err c
AnswersSlice slice (Err (Io kind)) = ⊥
AnswersSlice slice (Err Memory) = Unit {0}
