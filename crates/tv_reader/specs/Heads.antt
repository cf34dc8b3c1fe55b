-- What is taken of a value or of a key at once, and the bytes that encode it.
use Rattle.std.specs.Prelude.{◌≡◌, ℕ, List, [], ◌∷◌}
use Rattle.tv_base.specs.Number.{VNum}
use Rattle.tv_base.specs.Parts.{Behind}
use Rattle.tv_format.specs.Content.{form_of}
use Rattle.tv_format.specs.Leaves.{content, form, store_code}
use Rattle.tv_format.specs.Encoding.{leaf_code, LeafBody}
use Rattle.tv_format.specs.Tree.{Leaf}
use Rattle.tv_format.specs.Version.{Version, V1, V2, V3, entry_total}
use Rattle.tv_format.specs.declared.leaf_type.Form.{Form}
use Rattle.tv_format.specs.declared.leaf_type.Form.TheVariants as forms
use Rattle.tv_format.specs.declared.leaf_type.LeafType.{LeafType}

-- a whole leaf, the length in bytes of one, a number of elements or of entries, or codes alone
pub data HeadPart : Type 0 where
  leaf_head : Leaf → HeadPart
  length_head : LeafType → ℕ → HeadPart
  array_head : ℕ → HeadPart
  object_head : ℕ → HeadPart
  tokenized_head : HeadPart
  legacy_head : HeadPart

-- what has a known width is taken whole
abbrev pub HasWidth : Form → Type 0
HasWidth forms.Text = ⊥
HasWidth forms.Bytes = ⊥
HasWidth forms.Tokens = ⊥
HasWidth _ = Unit {0}

-- of these the length is taken
abbrev pub HasLength : Form → Type 0
HasLength forms.Text = Unit {0}
HasLength forms.Bytes = Unit {0}
HasLength _ = ⊥

-- the code, and what is taken after it
abbrev pub EncodesHead : Version → List ℕ → HeadPart → Type 0
EncodesHead version whole (leaf_head l) = HasWidth (form_of (content l))
    × Behind (leaf_code l) (λ b. LeafBody version b l) whole
EncodesHead version whole (length_head t n) = HasLength (form t) × Behind (store_code t) (λ b. VNum b n) whole
EncodesHead version whole (array_head n) = Behind 12 (λ b. VNum b n) whole
EncodesHead version whole (object_head n) = Behind 13 (λ b. VNum b (entry_total version n)) whole
EncodesHead version whole tokenized_head = whole ≡ 7 ∷ 0 ∷ []
EncodesHead version whole legacy_head = whole ≡ 8 ∷ []

-- a length, after the code of a text
abbrev pub CodedLength : List ℕ → ℕ → Type 0
CodedLength whole n = Behind 0 (λ b. VNum b n) whole

-- the length of a key, after its code in versions 1 and 2
abbrev pub EncodesKeyHead : Version → List ℕ → ℕ → Type 0
EncodesKeyHead V1 = CodedLength
EncodesKeyHead V2 = CodedLength
EncodesKeyHead V3 = VNum
