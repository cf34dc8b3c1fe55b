-- Members that are put into a map.
use Rattle.std.proofs.Common.{◌≡◌, ℕ, List, [], ◌∷◌, ◌++◌, nat_cmp, Greater, Less, Equal, Ordering, Bor, Some, Result, Ok, Err, OnOk, refl, ap, ◌∙◌}
use Rattle.std.specs.BTreeMap.{insert_entry}
use Rattle.std.specs.Cmp.Lexicographic.{slice_cmp}
use Rattle.std.specs.Ordering.{match_ordering}
use Rattle.std.specs.Result.{result_ok}
use Rattle.serde_json.specs.Data.{member, put}
use Rattle.tv_json.specs.BorrowedData.{data_of, members_data}
use Rattle.tv_json.specs.RisingMembers.{AreAbove, Rise}
use Rattle.tv_json.specs.declared.value.BorrowedJson.{BorrowedJson}
use Rattle.tv_json.proofs.Copies.{turned}
use Rattle.tv_json.proofs.Places.{Entry}

-- the order of keys
abbrev pub key_cmp : Bor (List ℕ) → Bor (List ℕ) → Ordering
key_cmp a b = slice_cmp nat_cmp a.now b.now

members_data-match_ordering : (o : Ordering) (a b c : List Entry) → members_data (match_ordering o a b c) ≡ match_ordering o (members_data a) (members_data b) (members_data c)
members_data-match_ordering Less a b c = refl
members_data-match_ordering Equal a b c = refl
members_data-match_ordering Greater a b c = refl

pub members_data-insert_entry : (ms : List Entry) (k : Bor (List ℕ)) (v : BorrowedJson) → members_data (insert_entry key_cmp ms k v) ≡ put k.now (data_of v) (members_data ms)
members_data-insert_entry [] k v = refl
members_data-insert_entry (m ∷ ms) k v = members_data-match_ordering (key_cmp k m.0) _ _ _ ∙ rw (members_data-insert_entry ms k v)

above_among : (k : List ℕ) (ms : List Entry) (m : Entry) (rest : List Entry) → AreAbove k (members_data (ms ++ m ∷ rest)) → slice_cmp nat_cmp k m.0.now ≡ Less
above_among k [] m rest h = h.0
above_among k (e ∷ ms) m rest h = above_among k ms m rest h.1

-- the next of members whose keys rise goes after those before it
pub put_next : (ms : List Entry) (m : Entry) (rest : List Entry) → Rise (members_data (ms ++ m ∷ rest)) → put m.0.now (data_of m.1) (members_data ms) ≡ members_data (ms ++ m ∷ [])
put_next [] m rest h = refl
put_next (e ∷ ms) m rest h = rw (turned e.0.now m.0.now (above_among e.0.now ms m rest h.0)) (ap (member e.0.now (data_of e.1)) (put_next ms m rest h.1))

-- a call that returned a value
pub when_ok : {T E P : Type 0} (r : Result T E) (x : T) → Some x ≡ result_ok r → OnOk r P → P
when_ok (Ok y) x e p = p
when_ok (Err y) x e p = absurd (cc)
