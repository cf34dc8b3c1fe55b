-- Copies of members whose keys rise.
use Rattle.std.proofs.Common.{◌≡◌, ℕ, List, [], ◌∷◌, ◌++◌, nat_cmp, Greater, Less, Bor, Option, Some, IfSome, refl, sym, ap, ◌∙◌}
use Rattle.std.proofs.lemmas.Cmp.{nat_list_cmp_total}
use Rattle.std.specs.Cmp.Lexicographic.{slice_cmp}
use Rattle.std.specs.List.{AllByRecursion}
use Rattle.std.specs.Ordering.{ordering_reverse}
use Rattle.serde_json.specs.Data.{Data, no_members, member, put}
use Rattle.tv_json.specs.BorrowedData.{data_of, members_data}
use Rattle.tv_json.proofs.Places.{Entry, put_before, put_before-append}

-- every key is below this one
abbrev pub AllBelow : List ℕ → List Entry → Type 0
AllBelow k = AllByRecursion (λ m. slice_cmp nat_cmp k m.0.now ≡ Greater)

-- every key above the last one is above all
abbrev pub RisesTo : Option (Bor (List ℕ)) → List Entry → Type 0
RisesTo last prefix = (k : List ℕ) → IfSome last (λ l. slice_cmp nat_cmp l.now k ≡ Less) → AllBelow k prefix

pub turned : (k l : List ℕ) → slice_cmp nat_cmp k l ≡ Less → slice_cmp nat_cmp l k ≡ Greater
turned k l h = nat_list_cmp_total.antisymm l k ∙ ap ordering_reverse h

pub turned_back : (k l : List ℕ) → slice_cmp nat_cmp k l ≡ Greater → slice_cmp nat_cmp l k ≡ Less
turned_back k l h = nat_list_cmp_total.antisymm l k ∙ ap ordering_reverse h

all_below_higher : (low high : List ℕ) (prefix : List Entry) → slice_cmp nat_cmp low high ≡ Less → AllBelow low prefix → AllBelow high prefix
all_below_higher low high [] above h = tt
all_below_higher low high (m ∷ ms) above h =
    (turned m.0.now high (nat_list_cmp_total.trans m.0.now low high (turned_back low m.0.now h.0) above), all_below_higher low high ms above h.1)

with_last : (k : List ℕ) (prefix : List Entry) (m : Entry) → AllBelow k prefix → slice_cmp nat_cmp m.0.now k ≡ Less → AllBelow k (prefix ++ m ∷ [])
with_last k [] m h below = (turned m.0.now k below, tt)
with_last k (e ∷ es) m h below = (h.0, with_last k es m h.1 below)

pub rises_on : (prefix : List Entry) (m : Entry) → AllBelow m.0.now prefix → RisesTo (Some m.0) (prefix ++ m ∷ [])
rises_on prefix m h k below = with_last k prefix m (all_below_higher m.0.now k prefix below h) below

put_behind : (k : List ℕ) (d : Data) (prefix : List Entry) → AllBelow k prefix → put k d (members_data prefix) ≡ put_before prefix (member k d no_members)
put_behind k d [] h = refl
put_behind k d (m ∷ ms) h = rw h.0 (ap (member m.0.now (data_of m.1)) (put_behind k d ms h.1))

pub put_last : (m : Entry) (prefix : List Entry) → AllBelow m.0.now prefix → put m.0.now (data_of m.1) (members_data prefix) ≡ members_data (prefix ++ m ∷ [])
put_last m prefix h = put_behind m.0.now (data_of m.1) prefix h ∙ sym (put_before-append prefix (m ∷ []))
