-- What bytes encode the parts that have come so far.
use Rattle.std.specs.Prelude.{◌≡◌, ℕ, List}
use Rattle.tv_base.specs.Number.{VNum, Fixed}
use Rattle.tv_base.specs.Parts.{Behind, Each}
use Rattle.tv_format.specs.Encoding.{Key, Encodes, EncodesPair}
use Rattle.tv_format.specs.Tree.{Entries}
use Rattle.tv_format.specs.Version.{Version, V1, V2, V3, entry_total}
use Rattle.tv_builder.specs.declared.kinds.BytesKind.{BytesKind}
use Rattle.tv_builder.specs.declared.kinds.BytesKind.TheVariants as kinds
use Rattle.tv_builder.specs.Parts.{Part, number, pair, field, value, key, array_head, object_head, bytes_head}
use Rattle.tv_builder.specs.Parts.{some_bytes}

-- the length of a key, with its code in versions 1 and 2
abbrev pub KeyHead : Version → List ℕ → ℕ → Type 0
KeyHead V1 whole n = Behind 0 (λ b. VNum b n) whole
KeyHead V2 whole n = Behind 0 (λ b. VNum b n) whole
KeyHead V3 whole n = VNum whole n

abbrev pub BytesHead : Version → BytesKind → List ℕ → ℕ → Type 0
BytesHead version kinds.Str whole n = Behind 0 (λ b. VNum b n) whole
BytesHead version kinds.Facet whole n = Behind 3 (λ b. VNum b n) whole
BytesHead version kinds.Bytes whole n = Behind 4 (λ b. VNum b n) whole
BytesHead version kinds.Key whole n = KeyHead version whole n

-- `Legacy` says what encodes the legacy form of objects
module _ (Legacy : List ℕ → Entries → Type 0) (v : Version) where
  abbrev pub EncodesPart : List ℕ → Part → Type 0
  EncodesPart whole (number n) = VNum whole n
  EncodesPart whole (pair f t) = EncodesPair Legacy v whole (f, t)
  EncodesPart whole (field f) = Fixed 4 whole f
  EncodesPart whole (value t) = Encodes Legacy v whole t
  EncodesPart whole (key k) = Key v whole k
  EncodesPart whole (array_head n) = Behind 12 (λ b. VNum b n) whole
  EncodesPart whole (object_head n) = Behind 13 (λ b. VNum b (entry_total v n)) whole
  EncodesPart whole (bytes_head kind n) = BytesHead v kind whole n
  EncodesPart whole (some_bytes bs) = whole ≡ bs

  -- the bytes are cut into as many slices, each of which encodes its part
  abbrev pub Encoded : List ℕ → List Part → Type 0
  Encoded whole parts = Each EncodesPart whole parts
