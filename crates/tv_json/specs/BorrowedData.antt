-- The JSON data that a borrowed value stands for.
use Rattle.std.specs.Prelude.{ℕ, List, [], ◌∷◌, map}
use Rattle.std.specs.Borrow.{Bor}
use Rattle.serde_json.specs.Data.{Data, null, boolean, number, unsigned, negative, float, string, array}
use Rattle.serde_json.specs.Data.{object, Items, Members, no_members, member}
use Rattle.serde_json.specs.View.{items_of}
use Rattle.tv_json.specs.declared.value.BorrowedJson.{BorrowedJson, fold-BorrowedJson}
use Rattle.tv_json.specs.declared.value.BorrowedJson.TheOpen.{BorrowedJson-F}

-- members with these keys and data, in the order in which they stand
abbrev pub members_of : List (Bor (List ℕ) × Data) → Members
members_of [] = no_members
members_of (m ∷ ms) = member m.0.now m.1 (members_of ms)

-- one level, with each value inside already seen as its data
abbrev pub data_step : BorrowedJson-F Data → Data
data_step BorrowedJson-F.Null = null
data_step (BorrowedJson-F.Bool b) = boolean b
data_step (BorrowedJson-F.Unsigned n) = number (unsigned n)
data_step (BorrowedJson-F.Negative z) = number (negative z)
data_step (BorrowedJson-F.Float x) = number (float x)
data_step (BorrowedJson-F.String s) = string s.now
data_step (BorrowedJson-F.Array v) = array (items_of v.items)
data_step (BorrowedJson-F.Object v) = object (members_of v.items)

abbrev pub data_of : BorrowedJson → Data
data_of = fold-BorrowedJson Data data_step

abbrev pub items_data : List BorrowedJson → Items
items_data vs = items_of (map data_of vs)

abbrev pub members_data : List (Bor (List ℕ) × BorrowedJson) → Members
members_data ms = members_of (map (λ m. (m.0, data_of m.1)) ms)
