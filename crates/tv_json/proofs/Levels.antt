-- A borrowed value's data, a level at a time.
use Rattle.std.proofs.Common.{◌≡◌, ℕ, List, Bool, Bor, Vec, Global, rules}
use Rattle.serde_json.specs.Data.{null, boolean, string, array, object}
use Rattle.tv_json.specs.BorrowedData.{data_of, items_data, members_data}
use Rattle.tv_json.specs.declared.value.BorrowedJson as borrowed
use Rattle.tv_json.specs.declared.value.BorrowedJson.{BorrowedJson, the_lemmas}

pub data_of-Null : data_of borrowed.Null ≡ null
data_of-Null = search (rules, the_lemmas)

pub data_of-Bool : (b : Bool) → data_of (borrowed.Bool b) ≡ boolean b
data_of-Bool b = search (rules, the_lemmas)

pub data_of-String : (s : Bor (List ℕ)) → data_of (borrowed.String s) ≡ string s.now
data_of-String s = search (rules, the_lemmas)

pub data_of-Array : (v : Vec BorrowedJson Global) → data_of (borrowed.Array v) ≡ array (items_data v.items)
data_of-Array v = search (rules, the_lemmas)

pub data_of-Object : (v : Vec (Bor (List ℕ) × BorrowedJson) Global) → data_of (borrowed.Object v) ≡ object (members_data v.items)
data_of-Object v = search (rules, the_lemmas)
