-- Objects as older stores hold them: blanks, and then a JSON object without its length, up to the brace that
-- closes it.
use Rattle.std.specs.Prelude.{◌≡◌, ◌≢◌, ◌⊎◌, ◌==◌, ℕ, List, [], ◌∷◌, ◌++◌, Some, None, IsUtf8, fold}
use Rattle.std.specs.Prelude.{if◌then◌else◌}
use Rattle.std.specs.List.{AllByRecursion, count_by}
use Rattle.serde_json.specs.Data as json
use Rattle.serde_json.specs.Data.{Members}
use Rattle.serde_json.specs.Read.{read}
use Rattle.tv_base.specs.declared.cause.Cause.{Cause}
use Rattle.tv_base.specs.declared.cause.Cause.TheVariants.{UnexpectedEnd, LegacyJson, LegacyFloat}
use Rattle.tv_value.specs.JsonTree.{json_tree}
use Rattle.tv_format.specs.Tree.{object, Entries}

-- a tab, a line feed, a carriage return or a space
abbrev pub IsBlank : ℕ → Type 0
IsBlank b = (b ≡ 9) ⊎ ((b ≡ 10) ⊎ ((b ≡ 13) ⊎ (b ≡ 32)))

-- Where a byte stands: outside of JSON strings, in one, or after a backslash in one.
pub data BytePlace : Type 0 where
  outside inside escaped : BytePlace

-- Where the next byte stands. 34 is the quotation mark, 92 the backslash, which takes the next byte.
abbrev pub next : BytePlace → ℕ → BytePlace
next outside b = if b == 34 then inside else outside
next inside b = if b == 34 then outside else (if b == 92 then escaped else inside)
next escaped b = inside

-- where the byte after these stands, the first of which stands outside
abbrev pub behind : List ℕ → BytePlace
behind bytes = fold next outside bytes

-- the bytes that stand outside of strings, where the first stands at a place
abbrev pub bare : BytePlace → List ℕ → List ℕ
bare place [] = []
bare outside (b ∷ bytes) = b ∷ bare (next outside b) bytes
bare inside (b ∷ bytes) = bare (next inside b) bytes
bare escaped (b ∷ bytes) = bare (next escaped b) bytes

-- how many braces have opened, and how many have closed; those in strings don't count
abbrev pub opened : List ℕ → ℕ
opened bytes = count_by (λ b. b == 123) (bare outside bytes)

abbrev pub closed : List ℕ → ℕ
closed bytes = count_by (λ b. b == 125) (bare outside bytes)

-- The slice begins with a brace that opens, and its last byte is the first at which as many have closed as
-- have opened.
pub record IsClosed (slice : List ℕ) : Type 0 where
  pub more : List ℕ
  pub opens : slice ≡ 123 ∷ more
  pub closes : closed slice ≡ opened slice
  pub first : (prefix rest : List ℕ) → slice ≡ prefix ++ rest → prefix ≢ [] → rest ≢ []
      → closed prefix ≢ opened prefix

-- blanks, and then a closed slice
pub record Slice (whole slice : List ℕ) : Type 0 where
  pub blanks : List ℕ
  pub joined : whole ≡ blanks ++ slice
  pub blank : AllByRecursion IsBlank blanks
  pub is_closed : IsClosed slice

-- the slice is a text that reads as a JSON object with these members
abbrev pub ReadsObject : List ℕ → Members → Type 0
ReadsObject slice members = IsUtf8 slice × (read slice ≡ Some (json.object members))

-- What stands after the code of a legacy object with these entries: its numbers are whole. Texts stay texts;
-- the entries are in byte order of their keys, of equal keys the last, as the members that are read.
pub record Legacy (whole : List ℕ) (entries : Entries) : Type 0 where
  pub slice : List ℕ
  pub cut : Slice whole slice
  pub members : Members
  pub reads : ReadsObject slice members
  pub numbers : json_tree (json.object members) ≡ Some (object entries)

-- What is wrong with bytes that are none: there are only blanks, no prefix of what follows them is closed, it
-- begins with another byte, the slice reads as no object, or a number in it isn't a whole one of 64 bits.
pub data ErrorInLegacy (whole : List ℕ) : Cause → Type 0 where
  only_blanks : AllByRecursion IsBlank whole → ErrorInLegacy whole UnexpectedEnd
  not_closed : (blanks rest : List ℕ) → whole ≡ blanks ++ (123 ∷ rest) → AllByRecursion IsBlank blanks
      → ((slice more : List ℕ) → 123 ∷ rest ≡ slice ++ more → ¬ (IsClosed slice))
      → ErrorInLegacy whole UnexpectedEnd
  no_brace : (blanks rest : List ℕ) (b : ℕ) → whole ≡ blanks ++ (b ∷ rest) → AllByRecursion IsBlank blanks
      → ¬ (IsBlank b) → b ≢ 123
      → ErrorInLegacy whole LegacyJson
  no_object : (prefix rest slice : List ℕ) → whole ≡ prefix ++ rest → Slice prefix slice
      → ((members : Members) → ¬ (ReadsObject slice members))
      → ErrorInLegacy whole LegacyJson
  not_whole : (prefix rest slice : List ℕ) (members : Members) → whole ≡ prefix ++ rest → Slice prefix slice
      → ReadsObject slice members
      → json_tree (json.object members) ≡ None → ErrorInLegacy whole LegacyFloat
