-- What is written of a leaf at the end of a heap, and where it stands then.
use Rattle.std.specs.Prelude.{◌≡◌, ℕ, List, []}
use Rattle.std.specs.Int.{w64, cast_unsigned}
use Rattle.tv_base.specs.Number.{eight_bytes, sixteen_bytes}
use Rattle.tv_base.specs.Parts.{short_sized}
use Rattle.tv_format.specs.Content.{Content, no_content, truth_content, unsigned_content, signed_content}
use Rattle.tv_format.specs.Content.{wide_content, text_content, bytes_content, tokens_content}
use Rattle.tv_format.specs.Leaves.{type_of, content}
use Rattle.tv_format.specs.Short.{short_tokenized}
use Rattle.tv_format.specs.Tree.{Leaf}
use Rattle.tv_format.specs.declared.leaf_type.LeafType.{LeafType}
use Rattle.tv_heap.specs.declared.value_type.Place.{Place}
use Rattle.tv_heap.specs.declared.value_type.ValueType.{ValueType}
use Rattle.tv_heap.specs.Reads.{flag}
use Rattle.tv_heap.specs.TypeCode.{leaf_heap_type}

-- nothing and a truth value have no bytes
abbrev pub content_bytes : Content → List ℕ
content_bytes no_content = []
content_bytes (truth_content b) = []
content_bytes (unsigned_content n) = eight_bytes n
content_bytes (signed_content z) = eight_bytes (cast_unsigned w64 z)
content_bytes (wide_content n) = sixteen_bytes n
content_bytes (text_content t) = short_sized t
content_bytes (bytes_content bs) = short_sized bs
content_bytes (tokens_content t ts) = short_tokenized t ts

abbrev pub leaf_bytes : Leaf → List ℕ
leaf_bytes the_leaf = content_bytes (content the_leaf)

abbrev pub leaf_value_type : Leaf → ValueType
leaf_value_type the_leaf = leaf_heap_type (type_of the_leaf)

-- the address of what is written at the end of a heap of this length
abbrev pub content_address : ℕ → Content → ℕ
content_address len no_content = 0
content_address len (truth_content b) = flag b
content_address len _ = len

abbrev pub leaf_address : ℕ → Leaf → ℕ
leaf_address len the_leaf = content_address len (content the_leaf)

-- the place of a value of this type and content that was written at the end of a heap of this length
abbrev pub IsPlaceAtEnd : (len : ℕ) → LeafType → Content → Place → Type 0
IsPlaceAtEnd len kind held place = (place.value_type ≡ leaf_heap_type kind)
    × (place.address ≡ content_address len held)
