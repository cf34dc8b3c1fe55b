-- Values that have no float.
use Rattle.std.proofs.Common.{◌≡◌, ℕ, zero, suc, ◌<◌, List, [], ◌∷◌, ◌++◌, ◌||◌, length, get_or, Bool, true, false, Ordering, Less, Equal, Greater, refl, subst, arith}
use Rattle.std.specs.Cmp.Lexicographic.{slice_cmp}
use Rattle.std.specs.Ordering.{nat_cmp, match_ordering}
use Rattle.serde_json.specs.Data.{Data, Members, no_members, member, put}
use Rattle.serde_json.specs.Written.{has_float, items_have_float, members_have_float}
use Rattle.tv_json.specs.BorrowedData.{data_of, items_data, members_data}
use Rattle.tv_json.specs.declared.value.BorrowedJson.{BorrowedJson}
use Rattle.tv_json.proofs.Places.{Entry}

pub neither : (a b : Bool) → (a || b) ≡ false → (a ≡ false) × (b ≡ false)
neither true b e = absurd (cc)
neither false b e = (refl, e)

pub none_in_last : (vs : List BorrowedJson) (v : BorrowedJson) → items_have_float (items_data vs) ≡ false → has_float (data_of v) ≡ false → items_have_float (items_data (vs ++ v ∷ [])) ≡ false
none_in_last [] v h e = rw e
none_in_last (w ∷ ws) v h e = let both = neither (has_float (data_of w)) _ h in rw both.0 (none_in_last ws v both.1 e)

none_in_any : (o : Ordering) (a b c : Members) → members_have_float a ≡ false → members_have_float b ≡ false → members_have_float c ≡ false → members_have_float (match_ordering o a b c) ≡ false
none_in_any Less a b c h i j = h
none_in_any Equal a b c h i j = i
none_in_any Greater a b c h i j = j

pub none_in_put : (k : List ℕ) (d : Data) (ms : Members) → has_float d ≡ false → members_have_float ms ≡ false → members_have_float (put k d ms) ≡ false
none_in_put k d no_members e h = rw e
none_in_put k d (member l x ms) e h =
    let both = neither (has_float x) _ h in
    none_in_any (slice_cmp nat_cmp k l) (member k d (member l x ms)) (member l d ms) (member l x (put k d ms)) (rw e h) (rw e both.1) (rw both.0 (none_in_put k d ms e both.1))

pub none_in_item : (vs : List BorrowedJson) (i : ℕ) (v : BorrowedJson) → i < length vs → get_or vs i v ≡ v → items_have_float (items_data vs) ≡ false → has_float (data_of v) ≡ false
none_in_item [] i v within here h = absurd (omega (arith, within))
none_in_item (w ∷ ws) zero v within here h = subst (λ (x : BorrowedJson). has_float (data_of x) ≡ false) here (neither (has_float (data_of w)) _ h).0
none_in_item (w ∷ ws) (suc i) v within here h = none_in_item ws i v (omega (arith, within)) here (neither (has_float (data_of w)) _ h).1

pub none_in_member : (ms : List Entry) (i : ℕ) (m : Entry) → i < length ms → get_or ms i m ≡ m → members_have_float (members_data ms) ≡ false → has_float (data_of m.1) ≡ false
none_in_member [] i m within here h = absurd (omega (arith, within))
none_in_member (e ∷ es) zero m within here h = subst (λ (x : Entry). has_float (data_of x.1) ≡ false) here (neither (has_float (data_of e.1)) _ h).0
none_in_member (e ∷ es) (suc i) m within here h = none_in_member es i m (omega (arith, within)) here (neither (has_float (data_of e.1)) _ h).1
