use Rattle.std.proofs.Common.{◌≡◌, ℕ, ◌+◌, ◌*◌, ◌≤◌, List, length, Some}
use Rattle.json.specs.Json.{items, members, value}
use Rattle.json.specs.Token.{Token}
use Rattle.serde_json.specs.Data.{Items, Members, no_members}
use Rattle.serde_json.specs.Read.{of_items, of_members, converted}
use Rattle.serde_json.specs.Written.{items_have_float, members_have_float}
use Rattle.tv_json.specs.Found.{found_data}
use Rattle.tv_json.specs.BorrowedData.{items_data}
use Rattle.tv_json.specs.Notes.{Notes}
use Rattle.tv_json.specs.RisingMembers.{Rise}
use Rattle.tv_json.proofs.Places.{items_before}
use Rattle.tv_json.proofs.read.+read.Given as goal

abbrev pub decreases-read : goal.decreases-read
decreases-read l = 2 * l.depth

abbrev pub decreases-read_items : goal.decreases-read_items
decreases-read_items l = 2 * l.depth + 1

abbrev pub decreases-read_members : goal.decreases-read_members
decreases-read_members l = 2 * l.depth + 1

-- what follows goes after the items that were found
abbrev pub invariant-read_items-items : goal.invariant-read_items-items
invariant-read_items-items l = record {
  turns : ℕ;
  enough : length l.reader ≤ turns;
  rest : (ds : Items) (r : List Token) → converted of_items (items (value l.depth) turns l.reader) ≡ Some (ds, r)
      → converted of_items (items (value l.depth) (length l.initial.reader) l.initial.reader) ≡ Some (items_before l.found.items ds, r);
  less : length l.reader ≤ length l.initial.reader;
  floats : Notes l.initial.met_float l.met_float (items_have_float (items_data l.found.items));
}

abbrev pub decreases-read_items-items : goal.decreases-read_items-items
decreases-read_items-items l = length l.reader

-- what follows goes among the members that were found
abbrev pub invariant-read_members-members : goal.invariant-read_members-members
invariant-read_members-members l = record {
  turns : ℕ;
  rises : Rise (found_data l.found);
  enough : length l.reader ≤ turns;
  rest : (ds : Members) (r : List Token) → converted (λ ms. of_members ms (found_data l.found)) (members (value l.depth) turns l.reader) ≡ Some (ds, r)
      → converted (λ ms. of_members ms no_members) (members (value l.depth) (length l.initial.reader) l.initial.reader) ≡ Some (ds, r);
  less : length l.reader ≤ length l.initial.reader;
  floats : Notes l.initial.met_float l.met_float (members_have_float (found_data l.found));
}

abbrev pub decreases-read_members-members : goal.decreases-read_members-members
decreases-read_members-members l = length l.reader
