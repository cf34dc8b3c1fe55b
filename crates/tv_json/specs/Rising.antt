-- Entries whose keys rise in byte order, and the tokens that are written for values.
use Rattle.std.specs.Prelude.{◌≡◌, ℕ, List, [], ◌∷◌, map, String, string_bytes, decimal}
use lib.Chars.{codes}
use Rattle.std.specs.Cmp.Lexicographic.{slice_cmp}
use Rattle.std.specs.Ordering.{nat_cmp}
use Rattle.std.specs.declared.cmp.Ordering.TheVariants.{Less}
use Rattle.std.specs.declared.alloc.Global.{Global}
use Rattle.json.specs.Token as json_token
use Rattle.json.specs.Tree.{json_tokens, items_tokens, members_tokens}
use Rattle.serde_json.specs.Data as json
use Rattle.serde_json.specs.Data.{Data, Items, Members}
use Rattle.serde_json.specs.Written.{outline, items_outline, members_outline}
use Rattle.tv_format.specs.Tree.{Token, Tree, leaf, array, object, Entries, no_entries, entry}
use Rattle.tv_value.specs.JsonOf.{json_of}
use Rattle.tv_value.specs.Lent.{nested_entry}

-- the first text comes before the second
abbrev pub Below : List ℕ → List ℕ → Type 0
Below k l = slice_cmp nat_cmp k l ≡ Less

abbrev pub RiseFrom : List ℕ → Entries → Type 0
RiseFrom k no_entries = Unit {0}
RiseFrom k (entry l t es) = Below k l × RiseFrom l es

-- each key is below the next
abbrev pub KeysRise : Entries → Type 0
KeysRise no_entries = Unit {0}
KeysRise (entry k t es) = RiseFrom k es

-- ---- for private clauses

-- the entries of an object, none of another value
abbrev pub entries_of : Tree → Entries
entries_of (leaf l) = no_entries
entries_of (array ts) = no_entries
entries_of (object es) = es

-- the members of keys and trees, as they stand
abbrev pub listed_json : List (List ℕ × Tree) → Members
listed_json [] = json.no_members
listed_json (e ∷ es) = json.member e.0 (json_of e.1) (listed_json es)

-- the keys and trees of a map's pairs
abbrev pub pair_entries : {N : Type 0} → (N → Tree) → List (String Global × N) → List (List ℕ × Tree)
pair_entries tree pairs = map (nested_entry string_bytes tree) pairs

-- the tokens of JSON values, of lists and of objects with their closing brackets
abbrev pub data_tokens : Data → List json_token.Token
data_tokens d = json_tokens (outline d)

abbrev pub rest_of_array : Items → List json_token.Token
rest_of_array ds = items_tokens (items_outline ds)

abbrev pub rest_of_object : Members → List json_token.Token
rest_of_object ms = members_tokens (members_outline ms)

-- the members of a token that are numbers
abbrev pub counts_tokens : Token → List json_token.Token
counts_tokens t =
    json_token.key (codes "offset_from") ∷ json_token.number (decimal t.offset_from)
    ∷ json_token.key (codes "offset_to") ∷ json_token.number (decimal t.offset_to)
    ∷ json_token.key (codes "position") ∷ json_token.number (decimal t.position)
    ∷ json_token.key (codes "position_length") ∷ json_token.number (decimal t.position_length) ∷ []
