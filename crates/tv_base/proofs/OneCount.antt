-- Two lists of the children of a facet with their counts are the same one, and so are two of the greatest of them.
use Rattle.std.proofs.Common.{◌≡◌, ◌≢◌, ℕ, suc, ◌<◌, ◌≤◌, ◌⊎◌, inl, inr, Bool, true, false, cond, List, [], ◌∷◌, map, take, length, get_or, refl, sym, ◌∙◌, ap, subst, arith}
use Rattle.std.specs.Prelude.{◌&&◌, bytes_eq, nat_eq, sum_by}
use Rattle.std.specs.List.{AllByRecursion}
use Rattle.std.specs.List.Sorted.{IsStrictlySortedBy, IsSorted}
use Rattle.std.specs.Set.{distinct_count}
use Rattle.std.specs.Ordering.{nat_cmp, is_lt, ordering_then, ordering_reverse}
use Rattle.std.specs.Cmp.{IsTotalOrder}
use Rattle.std.specs.Cmp.Lexicographic.{slice_cmp}
use Rattle.std.specs.declared.cmp.Ordering.{Ordering}
use Rattle.std.specs.declared.cmp.Ordering.TheVariants.{Less, Equal, Greater}
use Rattle.std.proofs.lemmas.Bool.{and_parts}
use Rattle.std.proofs.lemmas.Bool.Decides.{Decides-eqb}
use Rattle.std.proofs.lemmas.Cmp.{tied_itself, nat_list_cmp_total, nat_cmp_total, then_total, on_total, back_total}
use Rattle.std.proofs.lemmas.List.Sorted.{IsPermutation-sym, IsPermutation-trans, sum_by-IsPermutation, sorted_far, ranks_by}
use Rattle.std.proofs.lemmas.List.Sums.{sum_by-cons}
use Rattle.std.proofs.lemmas.Map.Lookups.{exact_bytes, exact_unsigned}
use Rattle.std.proofs.lemmas.Slice.Eq.{bytes_eq-Decides}
use Rattle.tv_base.proofs.Steps.{false_true}
use Rattle.tv_base.specs.FacetCounting.{IsChild, count_within, AreChildCounts}
use Rattle.tv_base.specs.DocumentCounting.{documents_within, AreDocumentCounts}
use Rattle.tv_base.specs.Greatest.{AreGreatest, rank_cmp}

abbrev Entry : Type 0
Entry = List ℕ × ℕ

-- an element of the list
abbrev Among : Entry → List Entry → Type 0
Among entry [] = ⊥
Among entry (first ∷ others) = (entry ≡ first) ⊎ Among entry others

all-among : (P : Entry → Type 0) (entry : Entry) (entries : List Entry) → AllByRecursion P entries → Among entry entries → P entry
all-among P entry [] all among = absurd among
all-among P entry (first ∷ others) all (inl same) = subst P (sym same) all.0
all-among P entry (first ∷ others) all (inr among) = all-among P entry others all.1 among

-- rising entries

abbrev Rises : List Entry → Type 0
Rises entries = IsStrictlySortedBy (slice_cmp nat_cmp) (map (λ entry. entry.0) entries)

never-before_itself : (child other : List ℕ) → child ≡ other → slice_cmp nat_cmp child other ≡ Less → ⊥
never-before_itself child other same before =
    let tied : slice_cmp nat_cmp child child ≡ Equal = tied_itself nat_list_cmp_total child in
    let less : slice_cmp nat_cmp child child ≡ Less = ap (slice_cmp nat_cmp child) same ∙ before in
    cc

never-both_ways : (child other : List ℕ) → slice_cmp nat_cmp child other ≡ Less → slice_cmp nat_cmp other child ≡ Less → ⊥
never-both_ways child other before after =
    let turned : slice_cmp nat_cmp child other ≡ Greater = nat_list_cmp_total.antisymm child other ∙ ap ordering_reverse after in
    cc

first-before : (first entry : Entry) (others : List Entry) → Rises (first ∷ others) → Among entry others → slice_cmp nat_cmp first.0 entry.0 ≡ Less
unfolding IsStrictlySortedBy
first-before first entry others rising among = before others rising.0 among
  where
    before : (others : List Entry) → AllByRecursion (λ child. slice_cmp nat_cmp first.0 child ≡ Less) (map (λ (one : Entry). one.0) others) → Among entry others → slice_cmp nat_cmp first.0 entry.0 ≡ Less
    before [] all among = absurd among
    before (one ∷ others) all (inl same) = ap (λ (it : Entry). slice_cmp nat_cmp first.0 it.0) same ∙ all.0
    before (one ∷ others) all (inr among) = before others all.1 among

others-rise : (first : Entry) (others : List Entry) → Rises (first ∷ others) → Rises others
unfolding IsStrictlySortedBy
others-rise first others rising = rising.1

one-of_two : (first second : Entry) (others rest : List Entry) → Rises (first ∷ others) → Rises (second ∷ rest) → Among first (second ∷ rest) → Among second (first ∷ others) → first ≡ second
one-of_two first second others rest one two (inl same) there = same
one-of_two first second others rest one two (inr here) (inl same) = sym same
one-of_two first second others rest one two (inr here) (inr there) =
    absurd (never-both_ways first.0 second.0 (first-before first second others one there) (first-before second first rest two here))

same-rising : (entries twin : List Entry) → Rises entries → Rises twin → ((entry : Entry) → Among entry entries → Among entry twin) → ((entry : Entry) → Among entry twin → Among entry entries)
    → entries ≡ twin
same-rising [] [] one two into back = refl
same-rising [] (second ∷ rest) one two into back = absurd (back second (inl refl))
same-rising (first ∷ others) [] one two into back = absurd (into first (inl refl))
same-rising (first ∷ others) (second ∷ rest) one two into back =
    let head : first ≡ second = one-of_two first second others rest one two (into first (inl refl)) (back second (inl refl)) in
    let tail : others ≡ rest =
    same-rising others rest (others-rise first others one) (others-rise second rest two)
    (λ entry among. behind entry first second others rest one head among (into entry (inr among)))
    (λ entry among. behind entry second first rest others two (sym head) among (back entry (inr among))) in
    λ i. head i ∷ tail i
  where
    behind : (entry first second : Entry) (others rest : List Entry) → Rises (first ∷ others) → first ≡ second → Among entry others → Among entry (second ∷ rest) → Among entry rest
    behind entry first second others rest rising head among (inr there) = there
    behind entry first second others rest rising head among (inl same) =
        absurd (never-before_itself first.0 entry.0 (ap (λ (it : Entry). it.0) (head ∙ sym same)) (first-before first entry others rising among))

-- what both kinds of counts say
record Counted (ancestor : List ℕ) (count : List ℕ → ℕ) (entries : List Entry) : Type 0 where
  is_child : (entry : Entry) → Among entry entries → IsChild ancestor entry.0
  count_is : (entry : Entry) → Among entry entries → entry.1 ≡ count entry.0
  has_some : (entry : Entry) → Among entry entries → 0 < entry.1
  others : (child : List ℕ) → IsChild ancestor child → AllByRecursion (λ entry. entry.0 ≢ child) entries → count child ≡ 0

-- the entry of a child, if it has one
find-entry : (child : List ℕ) (entries : List Entry) → ((entry : Entry) × Among entry entries × (entry.0 ≡ child)) ⊎ AllByRecursion (λ entry. entry.0 ≢ child) entries
find-entry child [] = inr tt
find-entry child (first ∷ others) = by (bytes_eq first.0 child) refl (find-entry child others)
  where
    by : (found : Bool) → bytes_eq first.0 child ≡ found → ((entry : Entry) × Among entry others × (entry.0 ≡ child)) ⊎ AllByRecursion (λ entry. entry.0 ≢ child) others
        → ((entry : Entry) × Among entry (first ∷ others) × (entry.0 ≡ child)) ⊎ AllByRecursion (λ entry. entry.0 ≢ child) (first ∷ others)
    by true is rest = inl (first, inl refl, (bytes_eq-Decides first.0 child).0 is)
    by false is (inl (entry, among, same)) = inl (entry, inr among, same)
    by false is (inr none) = inr ((λ same. false_true (sym is ∙ (bytes_eq-Decides first.0 child).1 same)), none)

counted-among : (ancestor : List ℕ) (count : List ℕ → ℕ) (entries twin : List Entry) → Counted ancestor count entries → Counted ancestor count twin → (entry : Entry) → Among entry entries → Among entry twin
counted-among ancestor count entries twin one two entry among = by (find-entry entry.0 twin)
  where
    by : ((other : Entry) × Among other twin × (other.0 ≡ entry.0)) ⊎ AllByRecursion (λ other. other.0 ≢ entry.0) twin → Among entry twin
    by (inl (other, there, same)) =
        let counts : other.1 ≡ entry.1 = two.count_is other there ∙ ap count same ∙ sym (one.count_is entry among) in
        let whole : other ≡ entry = λ i. (same i, counts i) in
        subst (λ it. Among it twin) whole there
    by (inr none) =
        let zero_count : count entry.0 ≡ 0 = two.others entry.0 (one.is_child entry among) none in
        absurd (omega (arith, zero_count, one.count_is entry among, one.has_some entry among))

same-counted : (ancestor : List ℕ) (count : List ℕ → ℕ) (entries twin : List Entry) → Rises entries → Rises twin → Counted ancestor count entries → Counted ancestor count twin → entries ≡ twin
same-counted ancestor count entries twin rising risen one two =
    same-rising entries twin rising risen (counted-among ancestor count entries twin one two) (counted-among ancestor count twin entries two one)

pub same-child_counts : (ancestor : List ℕ) (facets : List (List ℕ)) (counts other : List Entry) → AreChildCounts ancestor facets counts → AreChildCounts ancestor facets other → counts ≡ other
same-child_counts ancestor facets counts other one two = same-counted ancestor (λ child. count_within child facets) counts other one.rising two.rising (counted counts one) (counted other two)
  where
    counted : (entries : List Entry) → AreChildCounts ancestor facets entries → Counted ancestor (λ child. count_within child facets) entries
    counted entries are = record {
      is_child = λ entry among. (all-among _ entry entries are.each among).is_child;
      count_is = λ entry among. (all-among _ entry entries are.each among).count_is;
      has_some = λ entry among. (all-among _ entry entries are.each among).has_facets;
      others = are.others;
    }

pub same-document_counts : (ancestor : List ℕ) (facets counts other : List Entry) → AreDocumentCounts ancestor facets counts → AreDocumentCounts ancestor facets other → counts ≡ other
same-document_counts ancestor facets counts other one two =
    same-counted ancestor (λ child. distinct_count nat_eq (documents_within child facets)) counts other one.rising two.rising (counted counts one) (counted other two)
  where
    counted : (entries : List Entry) → AreDocumentCounts ancestor facets entries → Counted ancestor (λ child. distinct_count nat_eq (documents_within child facets)) entries
    counted entries are = record {
      is_child = λ entry among. (all-among _ entry entries are.each among).is_child;
      count_is = λ entry among. (all-among _ entry entries are.each among).count_is;
      has_some = λ entry among. (all-among _ entry entries are.each among).has_documents;
      others = λ child is_child none. ap (distinct_count nat_eq) (are.others child is_child none);
    }

-- entries by their rank

rank-total : IsTotalOrder rank_cmp
rank-total = then_total (back_total (on_total (λ (entry : Entry). entry.1) nat_cmp_total)) (on_total (λ (entry : Entry). entry.0) nat_list_cmp_total)

both-equal : (o p : Ordering) → ordering_then o p ≡ Equal → (o ≡ Equal) × (p ≡ Equal)
both-equal Equal p is = (refl, is)
both-equal Less p is = (let no : Less ≡ Equal = is in cc)
both-equal Greater p is = (let no : Greater ≡ Equal = is in cc)

neither-less : (o p : Ordering) → o ≡ ordering_reverse p → is_lt o ≡ false → is_lt p ≡ false → o ≡ Equal
neither-less Equal p turned one two = refl
neither-less Less p turned one two = absurd (false_true (sym one))
neither-less Greater Less turned one two = absurd (false_true (sym two))
neither-less Greater Equal turned one two = turned
neither-less Greater Greater turned one two = (let no : Greater ≡ Less = turned in cc)

same-rank : (entry other : Entry) → is_lt (rank_cmp entry other) ≡ false → is_lt (rank_cmp other entry) ≡ false → entry ≡ other
same-rank entry other one two =
    let tied = both-equal _ _ (neither-less (rank_cmp entry other) (rank_cmp other entry) (rank-total.antisymm entry other) one two) in
    let counts : other.1 ≡ entry.1 = exact_unsigned other.1 entry.1 tied.0 in
    let children : entry.0 ≡ other.0 = exact_bytes entry.0 other.0 tied.1 in
    λ i. (children i, sym counts i)

-- none of the entries is before the first
abbrev Ranked : List Entry → Type 0
Ranked [] = Unit {0}
Ranked (first ∷ others) = AllByRecursion (λ entry. is_lt (rank_cmp entry first) ≡ false) others × Ranked others

ranked-from : (entries : List Entry) → ((i j : ℕ) (d : Entry) → i ≤ j → j < length entries → is_lt (rank_cmp (get_or entries j d) (get_or entries i d)) ≡ false) → Ranked entries
ranked-from [] far = tt
ranked-from (first ∷ others) far =
    (after others (λ k inside. far 0 (suc k) first (omega arith) (omega arith)), ranked-from others (λ i j d low inside. far (suc i) (suc j) d (omega arith) (omega arith)))
  where
    after : (others : List Entry) → ((k : ℕ) → k < length others → is_lt (rank_cmp (get_or others k first) first) ≡ false) → AllByRecursion (λ entry. is_lt (rank_cmp entry first) ≡ false) others
    after [] each = tt
    after (one ∷ others) each = (each 0 (omega arith), after others (λ k inside. each (suc k) (omega arith)))

first-least : (first entry : Entry) (others : List Entry) → Ranked (first ∷ others) → Among entry (first ∷ others) → is_lt (rank_cmp entry first) ≡ false
first-least first entry others ranked (inl same) =
    ap (λ it. is_lt (rank_cmp it first)) same ∙ ap is_lt (tied_itself rank-total first)
first-least first entry others ranked (inr among) = all-among (λ it. is_lt (rank_cmp it first) ≡ false) entry others ranked.0 among

-- how often an entry is in a list
abbrev is_same : Entry → Entry → Bool
is_same entry other = bytes_eq entry.0 other.0 && nat_eq entry.1 other.1

abbrev one_if_same : Entry → Entry → ℕ
one_if_same entry other = cond (is_same entry other) 1 0

itself : (entry : Entry) → one_if_same entry entry ≡ 1
itself entry = rw ((bytes_eq-Decides entry.0 entry.0).1 refl) (rw ((Decides-eqb entry.1 entry.1).1 refl) refl)

among-from_sum : (entry : Entry) (entries : List Entry) → 0 < sum_by (one_if_same entry) entries → Among entry entries
among-from_sum entry [] some = absurd (omega arith)
among-from_sum entry (first ∷ others) some = by (is_same entry first) refl (among-from_sum entry others)
  where
    by : (found : Bool) → is_same entry first ≡ found → (0 < sum_by (one_if_same entry) others → Among entry others) → Among entry (first ∷ others)
    by true is rest =
        let both = and_parts (bytes_eq entry.0 first.0) (nat_eq entry.1 first.1) is in
        let children : entry.0 ≡ first.0 = (bytes_eq-Decides entry.0 first.0).0 both.0 in
        let counts : entry.1 ≡ first.1 = (Decides-eqb entry.1 first.1).0 both.1 in
        inl (λ i. (children i, counts i))
    by false is rest =
        let none : one_if_same entry first ≡ 0 = ap (λ b. cond b 1 0) is in
        inr (rest (omega (arith, some, none, sum_by-cons (one_if_same entry) first others)))

among-same_sum : (entry : Entry) (others twin : List Entry) → sum_by (one_if_same entry) (entry ∷ others) ≡ sum_by (one_if_same entry) twin → Among entry twin
among-same_sum entry others twin same = among-from_sum entry twin (omega (arith, same, itself entry, sum_by-cons (one_if_same entry) entry others))

same-ranked : (entries twin : List Entry) → Ranked entries → Ranked twin → ((f : Entry → ℕ) → sum_by f entries ≡ sum_by f twin) → entries ≡ twin
same-ranked [] [] one two same = refl
same-ranked [] (second ∷ rest) one two same = absurd (omega (arith, same (λ _. 1), sum_by-cons (λ (_ : Entry). 1) second rest))
same-ranked (first ∷ others) [] one two same = absurd (omega (arith, same (λ _. 1), sum_by-cons (λ (_ : Entry). 1) first others))
same-ranked (first ∷ others) (second ∷ rest) one two same =
    let here = among-same_sum first others (second ∷ rest) (same (one_if_same first)) in
    let there = among-same_sum second rest (first ∷ others) (sym (same (one_if_same second))) in
    let head : first ≡ second = same-rank first second (first-least second first rest two here) (first-least first second others one there) in
    let tail : others ≡ rest =
    same-ranked others rest one.1 two.1 (λ f. omega (arith, same f, ap f head, sum_by-cons f first others, sum_by-cons f second rest)) in
    λ i. head i ∷ tail i

pub same-greatest : (entries : List Entry) (most : ℕ) (greatest other : List Entry) → AreGreatest entries most greatest → AreGreatest entries most other → greatest ≡ other
same-greatest entries most greatest other one two =
    let far = λ (it : List Entry) (sorted : IsSorted rank_cmp it). sorted_far (λ x y. is_lt (rank_cmp x y)) (ranks_by rank-total (λ entry. entry)) it sorted in
    let moved = IsPermutation-trans one.ranked entries two.ranked (IsPermutation-sym entries one.ranked one.has_all) two.has_all in
    let same : one.ranked ≡ two.ranked =
    same-ranked one.ranked two.ranked (ranked-from one.ranked (far one.ranked one.by_rank)) (ranked-from two.ranked (far two.ranked two.by_rank))
    (λ f. sym (sum_by-IsPermutation f one.ranked two.ranked moved)) in
    one.first ∙ ap (take most) same ∙ sym two.first
