-- A member that is put among others whose keys rise.
use Rattle.std.proofs.Common.{◌≡◌, ℕ, zero, suc, ◌+◌, ◌<◌, List, [], ◌∷◌, ◌++◌, length, take, drop, get_or, nat_cmp, Less, Equal, Greater, Ordering, Bor, refl, sym, ap, subst, ◌∙◌, arith}
use Rattle.std.proofs.lemmas.Cmp.{nat_list_cmp_total}
use Rattle.std.specs.Cmp.Lexicographic.{slice_cmp}
use Rattle.std.specs.FinMap.{nat_cmp-IsAntisymmetric, slice_cmp-IsAntisymmetric}
use Rattle.std.specs.List.{insert}
use Rattle.serde_json.specs.Data.{Data, Members, no_members, member, put}
use Rattle.tv_json.specs.BorrowedData.{data_of, members_data}
use Rattle.tv_json.specs.RisingMembers.{AreAbove, Rise, EndsBelow}
use Rattle.tv_json.proofs.Copies.{turned, turned_back}
use Rattle.tv_json.specs.declared.value.BorrowedJson.{BorrowedJson}
use Rattle.tv_json.proofs.Places.{Entry, put_before, put_before-append, from_here}

-- ---- the keys still rise

above_lower : (j k : List ℕ) (ms : Members) → slice_cmp nat_cmp j k ≡ Less → AreAbove k ms → AreAbove j ms
above_lower j k no_members p h = tt
above_lower j k (member l d ms) p h = (nat_list_cmp_total.trans j k l p h.0, above_lower j k ms p h.1)

above_put : (j k : List ℕ) (d : Data) (ms : Members) → slice_cmp nat_cmp j k ≡ Less → AreAbove j ms → AreAbove j (put k d ms)
above_put j k d no_members p h = (p, tt)
above_put j k d (member l e ms) p h = by (slice_cmp nat_cmp k l) refl (above_put j k d ms p h.1)
  where
    by : (o : Ordering) → slice_cmp nat_cmp k l ≡ o → AreAbove j (put k d ms) → AreAbove j (put k d (member l e ms))
    by Less is rest = rw is (p, h)
    by Equal is rest = rw is h
    by Greater is rest = rw is (h.0, rest)

pub put_rises : (k : List ℕ) (d : Data) (ms : Members) → Rise ms → Rise (put k d ms)
put_rises k d no_members h = (tt, tt)
put_rises k d (member l e ms) h = by (slice_cmp nat_cmp k l) refl (put_rises k d ms h.1)
  where
    by : (o : Ordering) → slice_cmp nat_cmp k l ≡ o → Rise (put k d ms) → Rise (put k d (member l e ms))
    by Less is rest = rw is ((is, above_lower k l ms is h.0), h)
    by Equal is rest = rw is h
    by Greater is rest = rw is (above_put l k d ms (turned_back k l is) h.0, rest)

-- ---- after the last key

rest_below : (k : List ℕ) (e : Entry) (ms : List Entry) → EndsBelow k (e ∷ ms) → EndsBelow k ms
rest_below k e ms h = λ prefix m is. h (e ∷ prefix) m (ap (λ (l : List Entry). e ∷ l) is)

-- a key above the last is above the first
first_below : (k : List ℕ) (e : Entry) (ms : List Entry) → Rise (members_data (e ∷ ms)) → EndsBelow k (e ∷ ms) → slice_cmp nat_cmp k e.0.now ≡ Greater
first_below k e [] rises h = h [] e refl
first_below k e (f ∷ fs) rises h =
    turned e.0.now k (nat_list_cmp_total.trans e.0.now f.0.now k rises.0.0 (turned_back k f.0.now (first_below k f fs rises.1 (rest_below k e (f ∷ fs) h))))

pub put_at_end : (m : Entry) (ms : List Entry) → Rise (members_data ms) → EndsBelow m.0.now ms → members_data (ms ++ m ∷ []) ≡ put m.0.now (data_of m.1) (members_data ms)
put_at_end m [] rises h = refl
put_at_end m (e ∷ ms) rises h = rw (first_below m.0.now e ms rises h) (ap (member e.0.now (data_of e.1)) (put_at_end m ms rises.1 (rest_below m.0.now e ms h)))

-- ---- at a place among them

above_at : (k : List ℕ) (ms : List Entry) (i : ℕ) (m : Entry) → i < length ms → get_or ms i m ≡ m → AreAbove k (members_data ms) → slice_cmp nat_cmp k m.0.now ≡ Less
above_at k [] i m within here h = absurd (omega (arith, within))
above_at k (e ∷ ms) zero m within here h = subst (λ (x : Entry). slice_cmp nat_cmp k x.0.now ≡ Less) here h.0
above_at k (e ∷ ms) (suc i) m within here h = above_at k ms i m (omega (arith, within)) here h.1

-- a key belongs after the members in front of this place
abbrev pub Passed : List ℕ → BorrowedJson → List Entry → ℕ → Type 0
Passed k v ms i = put k (data_of v) (members_data ms) ≡ put_before (take i ms) (put k (data_of v) (members_data (drop i ms)))

-- the key of the member at this place, if there is one, is above
abbrev pub IsBelow : List ℕ → List Entry → Type 0
IsBelow k rest = (m : Entry) (more : List Entry) → rest ≡ m ∷ more → slice_cmp nat_cmp k m.0.now ≡ Less

passed_at : (key : Bor (List ℕ)) (v : BorrowedJson) (ms : List Entry) (i : ℕ) (m : Entry) → Rise (members_data ms) → i < length ms → get_or ms i m ≡ m
    → ((j : List ℕ) → slice_cmp nat_cmp j m.0.now ≡ Less → slice_cmp nat_cmp key.now j ≡ Greater) → Passed key.now v ms i
passed_at key v [] i m rises within here higher = absurd (omega (arith, within))
passed_at key v (e ∷ ms) zero m rises within here higher = refl
passed_at key v (e ∷ ms) (suc i) m rises within here higher =
    let inner : i < length ms = omega (arith, within) in
    rw (higher e.0.now (above_at e.0.now ms i m inner here rises.0)) (ap (member e.0.now (data_of e.1)) (passed_at key v ms i m rises.1 inner here higher))

pub passed_above : (key : Bor (List ℕ)) (v : BorrowedJson) (ms : List Entry) (i : ℕ) (m : Entry) → Rise (members_data ms) → i < length ms → get_or ms i m ≡ m → slice_cmp nat_cmp key.now m.0.now ≡ Greater → Passed key.now v ms i
passed_above key v ms i m rises within here above =
    passed_at key v ms i m rises within here (λ j low. turned j key.now (nat_list_cmp_total.trans j m.0.now key.now low (turned_back key.now m.0.now above)))

pub passed_same : (key : Bor (List ℕ)) (v : BorrowedJson) (ms : List Entry) (i : ℕ) (m : Entry) → Rise (members_data ms) → i < length ms → get_or ms i m ≡ m → slice_cmp nat_cmp key.now m.0.now ≡ Equal → Passed key.now v ms i
passed_same key v ms i m rises within here same =
    let one_key : key.now ≡ m.0.now = slice_cmp-IsAntisymmetric nat_cmp-IsAntisymmetric key.now m.0.now same in
    passed_at key v ms i m rises within here (λ j low. turned j key.now (subst (λ l. slice_cmp nat_cmp j l ≡ Less) (sym one_key) low))

pub below_here : (k : List ℕ) (ms : List Entry) (i : ℕ) (m : Entry) → i < length ms → get_or ms i m ≡ m → slice_cmp nat_cmp k m.0.now ≡ Less → IsBelow k (drop i ms)
below_here k ms i m within here below e more is =
    let one : ◌≡◌ {A = List Entry} (m ∷ drop (i + 1) ms) (e ∷ more) = sym (from_here ms i m within here) ∙ is in
    let same : m ≡ e = cc in
    subst (λ (x : Entry). slice_cmp nat_cmp k x.0.now ≡ Less) same below

put_first : (key : Bor (List ℕ)) (v : BorrowedJson) (rest : List Entry) → IsBelow key.now rest → put key.now (data_of v) (members_data rest) ≡ member key.now (data_of v) (members_data rest)
put_first key v [] below = refl
put_first key v (m ∷ more) below = rw (below m more refl)

pub put_here : (key : Bor (List ℕ)) (v : BorrowedJson) (ms : List Entry) (i : ℕ) → Passed key.now v ms i → IsBelow key.now (drop i ms) → members_data (insert ms i (key, v)) ≡ put key.now (data_of v) (members_data ms)
put_here key v ms i passed below =
    put_before-append (take i ms) ((key, v) ∷ drop i ms) ∙ ap (put_before (take i ms)) (sym (put_first key v (drop i ms) below)) ∙ sym passed
