-- The types of leaves: the form of what a leaf of each holds, its code in the store, and its type byte in a
-- heap. What is said of leaves elsewhere is said of
-- their type and of what they hold.
use Rattle.std.specs.Prelude.{◌==◌, ℕ, ℤ, Bool, true, false, List, [], ◌∷◌, Option, Some, None, if◌then◌else◌}
use Rattle.tv_format.specs.Content.{Content, no_content, truth_content, unsigned_content, signed_content}
use Rattle.tv_format.specs.Content.{wide_content, text_content, bytes_content, tokens_content}
use Rattle.tv_format.specs.Tree.{Token, Leaf, null, text, unsigned, signed, boolean, date, facet, bytes}
use Rattle.tv_format.specs.Tree.{ip_address, tokenized}
use Rattle.tv_format.specs.Version.{Version, Scale, plain, date_scale}
use Rattle.tv_format.specs.declared.leaf_type.Form.{Form}
use Rattle.tv_format.specs.declared.leaf_type.Form.TheVariants as forms
use Rattle.tv_format.specs.declared.leaf_type.LeafType.{LeafType}
use Rattle.tv_format.specs.declared.leaf_type.LeafType.TheVariants as types

abbrev pub type_of : Leaf → LeafType
type_of null = types.Null
type_of (text t) = types.Str
type_of (unsigned n) = types.U64
type_of (signed z) = types.I64
type_of (boolean b) = types.Bool
type_of (date z) = types.Date
type_of (facet t) = types.Facet
type_of (bytes bs) = types.Bytes
type_of (ip_address n) = types.IpAddr
type_of (tokenized t ts) = types.PreTokStr

abbrev pub content : Leaf → Content
content null = no_content
content (text t) = text_content t
content (unsigned n) = unsigned_content n
content (signed z) = signed_content z
content (boolean b) = truth_content b
content (date z) = signed_content z
content (facet t) = text_content t
content (bytes bs) = bytes_content bs
content (ip_address n) = wide_content n
content (tokenized t ts) = tokens_content t ts

-- the leaf of a type that holds this
abbrev pub leaf_with : LeafType → Content → Option Leaf
leaf_with types.Null no_content = Some null
leaf_with types.Str (text_content t) = Some (text t)
leaf_with types.U64 (unsigned_content n) = Some (unsigned n)
leaf_with types.I64 (signed_content z) = Some (signed z)
leaf_with types.Bool (truth_content b) = Some (boolean b)
leaf_with types.Date (signed_content z) = Some (date z)
leaf_with types.Facet (text_content t) = Some (facet t)
leaf_with types.Bytes (bytes_content bs) = Some (bytes bs)
leaf_with types.IpAddr (wide_content n) = Some (ip_address n)
leaf_with types.PreTokStr (tokens_content t ts) = Some (tokenized t ts)
leaf_with _ _ = None

abbrev pub form : LeafType → Form
form types.Null = forms.Nothing
form types.Str = forms.Text
form types.U64 = forms.Unsigned
form types.I64 = forms.Signed
form types.Bool = forms.Truth
form types.Date = forms.Signed
form types.Facet = forms.Text
form types.Bytes = forms.Bytes
form types.IpAddr = forms.Wide
form types.PreTokStr = forms.Tokens

-- the code in the store
abbrev pub store_code : LeafType → ℕ
store_code types.Str = 0
store_code types.U64 = 1
store_code types.I64 = 2
store_code types.Facet = 3
store_code types.Bytes = 4
store_code types.Date = 5
store_code types.PreTokStr = 7
store_code types.Bool = 9
store_code types.IpAddr = 10
store_code types.Null = 11

-- the largest code of a value in the store: no type is known above it
abbrev pub last_code : ℕ
last_code = 13

abbrev pub leaf_types : List LeafType
leaf_types =
    types.Str ∷ types.U64 ∷ types.I64 ∷ types.Facet ∷ types.Bytes ∷ types.Date ∷ types.PreTokStr ∷ types.Bool
    ∷ types.IpAddr ∷ types.Null ∷ []

-- the first of these types that has the code, and the type of a code
abbrev pub first_with : ℕ → List LeafType → Option LeafType
first_with code [] = None
first_with code (t ∷ ts) = if store_code t == code then Some t else first_with code ts

abbrev pub type_with : ℕ → Option LeafType
type_with code = first_with code leaf_types

-- the type byte in a heap; 4 is unused
abbrev pub heap_code : LeafType → ℕ
heap_code types.Null = 0
heap_code types.Str = 1
heap_code types.U64 = 2
heap_code types.I64 = 3
heap_code types.Date = 5
heap_code types.Facet = 6
heap_code types.Bytes = 7
heap_code types.IpAddr = 8
heap_code types.Bool = 9
heap_code types.PreTokStr = 10

-- what the number of a leaf counts in a version
abbrev pub scale : Version → LeafType → Scale
scale version types.Date = date_scale version
scale version _ = plain

-- what a leaf of each type holds, where it is one
abbrev pub is_null : Leaf → Bool
is_null null = true
is_null _ = false

abbrev pub text_in : Leaf → Option (List ℕ)
text_in (text t) = Some t
text_in _ = None

abbrev pub unsigned_in : Leaf → Option ℕ
unsigned_in (unsigned n) = Some n
unsigned_in _ = None

abbrev pub signed_in : Leaf → Option ℤ
signed_in (signed z) = Some z
signed_in _ = None

abbrev pub boolean_in : Leaf → Option Bool
boolean_in (boolean b) = Some b
boolean_in _ = None

abbrev pub date_in : Leaf → Option ℤ
date_in (date z) = Some z
date_in _ = None

abbrev pub facet_in : Leaf → Option (List ℕ)
facet_in (facet t) = Some t
facet_in _ = None

abbrev pub bytes_in : Leaf → Option (List ℕ)
bytes_in (bytes bs) = Some bs
bytes_in _ = None

abbrev pub ip_address_in : Leaf → Option ℕ
ip_address_in (ip_address n) = Some n
ip_address_in _ = None

abbrev pub tokenized_in : Leaf → Option (List ℕ × List Token)
tokenized_in (tokenized t ts) = Some (t, ts)
tokenized_in _ = None
