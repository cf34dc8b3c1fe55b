-- Points as objects of numbers.
use Rattle.std.specs.Prelude.{◌≡◌, ℕ, List, Option, codes}
use Rattle.embedding.specs.declared.point.Point.{Point}
use Rattle.tantivy_schema.specs.CodeTypes.DeserializeError.{DeserializeError}
use Rattle.tantivy_schema.specs.CodeTypes.ValueType.{ValueType}
use Rattle.tantivy_schema.specs.CodeTypes.ValueType.TheVariants as types
use Rattle.tantivy_schema.specs.Excluding.{leaf_excludes}
use Rattle.tantivy_schema.specs.ExcludingLegacy.{members_exclude}
use Rattle.tantivy_schema.specs.ExcludingLists.{object_excludes}
use Rattle.tantivy_schema.specs.LegacyObjects.{MembersRefused}
use Rattle.tantivy_schema.specs.Lists.{MapOf, ObjectRefused}
use Rattle.tantivy_schema.specs.Tree.{Tree, unsigned}
use Rattle.tantivy_schema.specs.Values.{IsLeafOf, LeafRefused, RefusalsExclude}
use Rattle.tantivy_schema.specs.Version.{Version}
use Rattle.std.proofs.Common.{refl}

-- a number
abbrev pub IsNumber : Tree → ℕ → Type 0
IsNumber = IsLeafOf (λ n. unsigned n)

-- each coordinate is the last number with its key
pub record IsPoint (t : Tree) (point : Point) : Type 0 where
  pub last : List ℕ → Option ℕ
  pub numbers : MapOf IsNumber t last
  pub x : point.x ≡ last (codes "x")
  pub y : point.y ≡ last (codes "y")

-- what is refused as a map of numbers
abbrev pub PointRefused : Version → ValueType → List ℕ → DeserializeError → Type 0
PointRefused = MembersRefused (ObjectRefused IsNumber (LeafRefused types.U64))

number_excludes : RefusalsExclude IsNumber (LeafRefused types.U64)
number_excludes = leaf_excludes types.U64 (λ n. unsigned n) (λ _. refl)

-- of refused bytes no prefix encodes such an object
pub point_excludes : RefusalsExclude IsPoint PointRefused
point_excludes v kind prefix rest e t point refused encoded is =
    members_exclude (ObjectRefused IsNumber (LeafRefused types.U64)) v kind prefix rest e t
    (λ f. object_excludes IsNumber (LeafRefused types.U64) number_excludes v kind prefix rest e t
    is.numbers.pairs f encoded is.numbers.read) refused encoded
