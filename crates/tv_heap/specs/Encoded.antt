-- What the store has for a value that stands in a heap.
use Rattle.std.specs.Prelude.{ℕ, ◌^◌, ◌<◌, Bool, not, nat_lt, List, [], ◌∷◌, ◌++◌, length, filter}
use Rattle.tv_base.specs.Number.{vnum, eight_bytes, truth_byte}
use Rattle.tv_format.specs.Short.{short_elements, short_entries}
use Rattle.tv_format.specs.Content.{Content, tokens_content}
use Rattle.tv_format.specs.Leaves.{content}
use Rattle.tv_format.specs.Tree.{Tree, leaf, elements, entries}
use Rattle.tv_format.specs.Version.{Version, entry_total}
use Rattle.tv_heap.specs.declared.value.Encoded.{Encoded}
use Rattle.tv_heap.specs.declared.value.Encoded.TheVariants as held

-- the bytes in a version, the code first
abbrev pub encoded_bytes : Version → Encoded → List ℕ
encoded_bytes version held.Null = 11 ∷ []
encoded_bytes version (held.Bool b) = 9 ∷ truth_byte b
encoded_bytes version (held.Number code n) = code ∷ eight_bytes n
encoded_bytes version (held.Bytes code content) = code ∷ content.now
encoded_bytes version (held.Tokenized content) = 7 ∷ 0 ∷ content.now
encoded_bytes version (held.Array n items) = 12 ∷ (vnum n ++ short_elements version (elements items.held.0))
encoded_bytes version (held.Object n members) = 13 ∷
    (vnum (entry_total version n) ++ short_entries version (entries members.held.0))

-- an object has few enough entries that twice their number has 64 bits
abbrev pub HasFewEntries : Encoded → Type 0
HasFewEntries (held.Object n members) = n < 2 ^ 63
HasFewEntries _ = Unit {0}

-- a text with its tokens
abbrev pub HoldsTokens : Content → Type 0
HoldsTokens (tokens_content t ts) = Unit {0}
HoldsTokens _ = ⊥

abbrev pub IsTokenized : Tree → Type 0
IsTokenized (leaf l) = HoldsTokens (content l)
IsTokenized _ = ⊥

abbrev pub SaysTokenized : Encoded → Type 0
SaysTokenized (held.Tokenized content) = Unit {0}
SaysTokenized _ = ⊥

-- the last byte of a number of variable length, and no other byte of it or of a type, is at least 128
abbrev pub is_last : ℕ → Bool
is_last b = not (nat_lt b 128)

-- how many such bytes there are
abbrev pub last_byte_count : List ℕ → ℕ
last_byte_count bytes = length (filter is_last bytes)
