-- What has come of a document, as a flat list of parts in reading order, and how some parts are traded for
-- others.
use Rattle.std.specs.Prelude.{◌≡◌, ℕ, List, [], ◌∷◌, ◌++◌, length, map, IsUtf8}
use Rattle.tv_format.specs.Tree.{Tree, leaf, text, facet, bytes, array, object, elements, entries}
use Rattle.tv_builder.specs.declared.kinds.BytesKind.{BytesKind}
use Rattle.tv_builder.specs.declared.kinds.BytesKind.TheVariants.{Str, Facet, Bytes, Key}

pub data Part : Type 0 where
  -- the number of the pairs
  number : ℕ → Part
  pair : ℕ → Tree → Part
  field : ℕ → Part
  value : Tree → Part
  key : List ℕ → Part
  -- with the number of elements or entries that is announced
  array_head object_head : ℕ → Part
  -- with the length that is announced, and then the bytes so far
  bytes_head : BytesKind → ℕ → Part
  some_bytes : List ℕ → Part

abbrev pub entry_parts : List (List ℕ × Tree) → List Part
entry_parts [] = []
entry_parts (e ∷ es) = key e.0 ∷ value e.1 ∷ entry_parts es

-- what bytes of a kind are, once all have come
abbrev pub bytes_part : BytesKind → List ℕ → Part
bytes_part Str content = value (leaf (text content))
bytes_part Facet content = value (leaf (facet content))
bytes_part Bytes content = value (leaf (bytes content))
bytes_part Key content = key content

-- texts are UTF-8
abbrev pub IsContentOf : BytesKind → List ℕ → Type 0
IsContentOf Str content = IsUtf8 content
IsContentOf Facet content = IsUtf8 content
IsContentOf Bytes content = Unit {0}
IsContentOf Key content = IsUtf8 content

-- What is closed is one part. The rules say nothing of bytes that are read.
pub data Rule : List Part → List Part → Type 0 where
  full_array : (ts : List Tree) → Rule (array_head (length ts) ∷ map value ts)
      (value (array (elements ts)) ∷ [])
  full_object : (es : List (List ℕ × Tree)) → Rule (object_head (length es) ∷ entry_parts es)
      (value (object (entries es)) ∷ [])
  full_bytes : (kind : BytesKind) (content : List ℕ) → IsContentOf kind content
      → Rule (bytes_head kind (length content) ∷ some_bytes content ∷ []) (bytes_part kind content ∷ [])
  more_bytes : (a b : List ℕ) → Rule (some_bytes a ∷ some_bytes b ∷ []) (some_bytes (a ++ b) ∷ [])
  no_bytes : Rule [] (some_bytes [] ∷ [])
  full_pair : (f : ℕ) (t : Tree) → Rule (field f ∷ value t ∷ []) (pair f t ∷ [])

-- by one rule after the other, each between other parts
pub data Trades : List Part → List Part → Type 0 where
  same : {ps : List Part} → Trades ps ps
  by_rule : {ps rs : List Part} (prefix old new back : List Part) → Rule old new
      → ps ≡ prefix ++ (old ++ back) → Trades (prefix ++ (new ++ back)) rs → Trades ps rs
