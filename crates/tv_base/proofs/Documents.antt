-- Documents that are counted by the children that their facets are or lie below.
use Rattle.std.proofs.Common.{◌≡◌, ℕ, suc, zero, ◌<◌, Bool, true, false, cond, List, [], ◌∷◌, ◌++◌, Bor, map, length, get_or, refl, sym, ◌∙◌, ap, subst, add-one, arith}
use Rattle.std.specs.Prelude.{◌&&◌, ◌||◌, ◌↔◌, nat_eq, bytes_eq}
use Rattle.std.specs.List.{AllByRecursion, Contains, filter, list_any, dedup, IsDistinct}
use Rattle.std.specs.List.Sorted.{IsStrictlySortedBy, IsPermutation, IsSorted}
use Rattle.std.specs.Set.{distinct_count, is_member, unique_keys}
use Rattle.std.specs.Ordering.{nat_cmp, is_lt, ordering_then, ordering_reverse, eq_by_cmp}
use Rattle.std.specs.Cmp.{IsTotalOrder, IsEquivalence, both_tied, unsigned_ties}
use Rattle.std.specs.Cmp.Lexicographic.{slice_cmp, on_texts, texts_ties}
use Rattle.std.specs.declared.cmp.Ordering.{Ordering}
use Rattle.std.specs.declared.cmp.Ordering.TheVariants.{Less, Equal, Greater}
use Rattle.std.proofs.lemmas.Bool.{false_from_ne_true, and_parts}
use Rattle.std.proofs.lemmas.Bool.Decides.{Decides-eqb}
use Rattle.std.proofs.lemmas.Cmp.{tied_itself, nat_list_cmp_total, nat_cmp_total, nat_eq_equiv, nat_list_eq_equiv, then_total, on_total, on_equiv, and_equiv}
use Rattle.std.proofs.lemmas.List.{map-append, append-nil, get_or-map}
use Rattle.std.proofs.lemmas.List.Elements.{filter-append, All-contains, All-contains_itself, All-weaker, recursion_from_All, All-from_recursion}
use Rattle.std.proofs.lemmas.List.Folds.{Any-from_list_any}
use Rattle.std.proofs.lemmas.List.Kept.{Any-dedup, Contains-from_dedup, IsStrictlySortedBy-dedup}
use Rattle.std.proofs.lemmas.List.Sorted.{Contains-permutation, IsPermutation-sym}
use Rattle.std.proofs.lemmas.Slice.Eq.{bytes_eq-Decides}
use Rattle.std.proofs.lemmas.Map.Made.{length-from_keys}
use Rattle.tv_base.specs.Facet.{steps}
use Rattle.tv_base.proofs.Steps.{false_true}
use Rattle.tv_base.specs.FacetCounting.{is_within, count_within, IsChild, IsChildCount, AreChildCounts, AreRising}
use Rattle.tv_base.specs.ChildPlaces.{HasNoChild, IsChildAbove}
use Rattle.tv_base.specs.DocumentCounting.{documents_within, IsDocumentCount, AreDocumentCounts}
use Rattle.tv_base.specs.DocumentPairs.{pair_of, pair_cmp, ArePairs, HasEachOnce}
use Rattle.tv_base.proofs.FacetCounts.{all-map, all-append, nothing, same-child, within-from_steps}

documents-append : (upper : List ℕ) (l m : List (List ℕ × ℕ)) → documents_within upper (l ++ m) ≡ documents_within upper l ++ documents_within upper m
documents-append upper l m =
    let test = λ (one : List ℕ × ℕ). is_within upper one.0 in
    let document = λ (one : List ℕ × ℕ). one.1 in
    ap (map document) (filter-append test l m) ∙ map-append document (filter test l) (filter test m)

pub within-itself : (facet : List ℕ) → is_within facet facet ≡ true
within-itself facet = within-from_steps facet facet [] (sym (append-nil (steps facet)))

pub above-itself : (ancestor child : List ℕ) → IsChild ancestor child → IsChildAbove ancestor child child
above-itself ancestor child h = record { is_child = h; is_above = within-itself child }

same-test : (a b : Bool) → (a ≡ true → b ≡ true) → (b ≡ true → a ≡ true) → a ≡ b
same-test true b f g = sym (f refl)
same-test false true f g = g refl
same-test false false f g = refl

-- a child of the ancestor is above a facet where it is above the child towards that facet
within-towards : (ancestor f c d : List ℕ) → IsChild ancestor d → IsChildAbove ancestor f c → is_within d c ≡ is_within d f
within-towards ancestor f c d is_child above =
    same-test (is_within d c) (is_within d f)
    (λ h. (let e : d ≡ c = same-child ancestor d c c is_child above.is_child h (within-itself c) in ap (λ x. is_within x f) e ∙ above.is_above))
    (λ h. (let e : d ≡ c = same-child ancestor d c f is_child above.is_child h above.is_above in ap (λ x. is_within x c) e ∙ within-itself c))

one-document : (d f : List ℕ) (n : ℕ) → documents_within d ((f, n) ∷ []) ≡ cond (is_within d f) (n ∷ []) []
one-document d f n = by (is_within d f)
  where
    by : (b : Bool) → map (λ (one : List ℕ × ℕ). one.1) (cond b ((f, n) ∷ []) []) ≡ cond b (n ∷ []) []
    by true = refl
    by false = refl

pub pairs-more : (ancestor : List ℕ) (facets pairs : List (List ℕ × ℕ)) (f c : List ℕ) (n : ℕ) → ArePairs ancestor facets pairs → IsChildAbove ancestor f c
    → ArePairs ancestor (facets ++ (f, n) ∷ []) (pairs ++ (c, n) ∷ [])
pairs-more ancestor facets pairs f c n p above =
    record {
      children = all-append (λ (pair : List ℕ × ℕ). IsChild ancestor pair.0) pairs ((c, n) ∷ []) p.children (above.is_child, tt);
      documents = λ d is_child.
          (let same : cond (is_within d c) (n ∷ []) [] ≡ cond (is_within d f) (n ∷ []) [] = ap (λ b. cond b (n ∷ []) []) (within-towards ancestor f c d is_child above) in
          documents-append d pairs ((c, n) ∷ []) ∙ (λ i. p.documents d is_child i ++ (one-document d c n ∙ same ∙ sym (one-document d f n)) i) ∙ sym (documents-append d facets ((f, n) ∷ [])));
    }

pub pairs-none : (ancestor : List ℕ) (facets pairs : List (List ℕ × ℕ)) (f : List ℕ) (n : ℕ) → ArePairs ancestor facets pairs → HasNoChild ancestor f
    → ArePairs ancestor (facets ++ (f, n) ∷ []) pairs
pairs-none ancestor facets pairs f n p none =
    record {
      children = p.children;
      documents = λ d is_child.
          (let last : documents_within d ((f, n) ∷ []) ≡ [] = one-document d f n ∙ ap (λ b. cond b (n ∷ []) []) (none d is_child) in
          p.documents d is_child ∙ sym (documents-append d facets ((f, n) ∷ []) ∙ ap (λ l. documents_within d facets ++ l) last ∙ append-nil (documents_within d facets)));
    }

-- elements of lists whose elements are mapped
Contains-map : {X Y : Type 0} (f : X → Y) (xs : List X) (x : X) → Contains xs x → Contains (map f xs) (f x)
Contains-map f [] x (k, inside, is) = absurd (omega arith)
Contains-map f (y ∷ xs) x (zero, inside, is) = (zero, omega arith, ap f is)
Contains-map f (y ∷ xs) x (suc k, inside, is) = let rest = Contains-map f xs x (k, omega arith, is) in (suc (rest.0), omega arith, rest.2)

Contains-from_map : {X Y : Type 0} (f : X → Y) (xs : List X) (y : Y) → Contains (map f xs) y → (x : X) × Contains xs x × (f x ≡ y)
Contains-from_map f [] y (k, inside, is) = absurd (omega arith)
Contains-from_map f (x ∷ xs) y (zero, inside, is) = (x, (zero, omega arith, refl), is)
Contains-from_map f (x ∷ xs) y (suc k, inside, is) =
    let rest = Contains-from_map f xs y (k, omega arith, is) in (rest.0, (suc (rest.1.0), omega arith, rest.1.2), rest.2)

any-from_Contains : {X : Type 0} (p : X → Bool) (xs : List X) (x : X) → Contains xs x → p x ≡ true → list_any p xs ≡ true
any-from_Contains p [] x (k, inside, is) h = absurd (omega arith)
any-from_Contains p (y ∷ xs) x (zero, inside, is) h = let e : p y ≡ true = ap p is ∙ h in rw e
any-from_Contains p (y ∷ xs) x (suc k, inside, is) h = let e = any-from_Contains p xs x (k, omega arith, is) h in grind (arith, e)

-- whether a document is that of a facet within the upper one
abbrev is_of : List ℕ → ℕ → List ℕ × ℕ → Bool
is_of upper document one = is_within upper one.0 && nat_eq document one.1

documents-any : (upper : List ℕ) (n : ℕ) (l : List (List ℕ × ℕ)) → is_member nat_eq (documents_within upper l) n ≡ list_any (is_of upper n) l
documents-any upper n [] = refl
documents-any upper n (one ∷ l) = by (is_within upper one.0) (documents-any upper n l)
  where
    by : (b : Bool) → is_member nat_eq (documents_within upper l) n ≡ list_any (is_of upper n) l
        → is_member nat_eq (map (λ (other : List ℕ × ℕ). other.1) (cond b (one ∷ filter (λ other. is_within upper other.0) l) (filter (λ other. is_within upper other.0) l))) n
        ≡ ((b && nat_eq n one.1) || list_any (is_of upper n) l)
    by true e = rw e refl
    by false e = e

documents-within_other : (upper : List ℕ) (n : ℕ) (l m : List (List ℕ × ℕ)) → ((pair : List ℕ × ℕ) → Contains l pair → Contains m pair)
    → is_member nat_eq (documents_within upper l) n ≡ true → is_member nat_eq (documents_within upper m) n ≡ true
documents-within_other upper n l m f h =
    let found = Any-from_list_any (is_of upper n) l (sym (documents-any upper n l) ∙ h) in
    documents-any upper n m ∙ any-from_Contains (is_of upper n) m found.1 (f found.1 (found.0, found.2, found.3)) found.4

documents-same : (upper : List ℕ) (n : ℕ) (l m : List (List ℕ × ℕ)) → ((pair : List ℕ × ℕ) → Contains l pair ↔ Contains m pair)
    → is_member nat_eq (documents_within upper l) n ≡ is_member nat_eq (documents_within upper m) n
documents-same upper n l m same =
    same-test (is_member nat_eq (documents_within upper l) n) (is_member nat_eq (documents_within upper m) n)
    (documents-within_other upper n l m (λ pair. (same pair).0)) (documents-within_other upper n m l (λ pair. (same pair).1))

-- pairs of code, by their child and then by their document
abbrev pub code_cmp : Bor (List ℕ) × ℕ → Bor (List ℕ) × ℕ → Ordering
code_cmp one other = pair_cmp (pair_of one) (pair_of other)

abbrev pub code_eq : Bor (List ℕ) × ℕ → Bor (List ℕ) × ℕ → Bool
code_eq one other = bytes_eq one.0.now other.0.now && nat_eq one.1 other.1

code-total : IsTotalOrder code_cmp
code-total = then_total (on_texts (λ (pair : Bor (List ℕ) × ℕ). pair.0.now)) (on_total (λ (pair : Bor (List ℕ) × ℕ). pair.1) nat_cmp_total)

code-ties : (x y : Bor (List ℕ) × ℕ) → code_eq x y ≡ eq_by_cmp code_cmp x y
code-ties x y = both_tied (bytes_eq x.0.now y.0.now) (nat_eq x.1 y.1) (slice_cmp nat_cmp x.0.now y.0.now) (nat_cmp x.1 y.1) (texts_ties x.0.now y.0.now) (unsigned_ties x.1 y.1)

code-equivalence : IsEquivalence code_eq
code-equivalence = and_equiv (on_equiv (λ (pair : Bor (List ℕ) × ℕ). pair.0.now) nat_list_eq_equiv) (on_equiv (λ (pair : Bor (List ℕ) × ℕ). pair.1) nat_eq_equiv)

code-same : (x y : Bor (List ℕ) × ℕ) → code_eq x y ≡ true → pair_of x ≡ pair_of y
code-same x y h =
    let both = and_parts (bytes_eq x.0.now y.0.now) (nat_eq x.1 y.1) h in
    let child : x.0.now ≡ y.0.now = (bytes_eq-Decides x.0.now y.0.now).0 both.0 in
    let document : x.1 ≡ y.1 = (Decides-eqb x.1 y.1).0 both.1 in
    cc

strictly-mapped : (items : List (Bor (List ℕ) × ℕ)) → IsStrictlySortedBy code_cmp items → IsStrictlySortedBy pair_cmp (map pair_of items)
unfolding IsStrictlySortedBy
strictly-mapped [] h = tt
strictly-mapped (x ∷ items) h = (less-mapped x items h.0, strictly-mapped items h.1)
  where
    less-mapped : (x : Bor (List ℕ) × ℕ) (l : List (Bor (List ℕ) × ℕ)) → AllByRecursion (λ y. code_cmp x y ≡ Less) l → AllByRecursion (λ y. pair_cmp (pair_of x) y ≡ Less) (map pair_of l)
    less-mapped x [] k = tt
    less-mapped x (y ∷ l) k = (k.0, less-mapped x l k.1)

pub each-once : (old moved new : List (Bor (List ℕ) × ℕ)) → IsPermutation old moved → IsSorted code_cmp moved → new ≡ dedup code_eq moved → HasEachOnce (map pair_of old) (map pair_of new)
each-once old moved new permutation sorted is =
    record {
      rising = strictly-mapped new (rw is (IsStrictlySortedBy-dedup code-total code-ties moved sorted));
      contains = λ pair. (keeps pair, adds_none pair);
    }
  where
    keeps : (pair : List ℕ × ℕ) → Contains (map pair_of old) pair → Contains (map pair_of new) pair
    keeps pair h =
        let one = Contains-from_map pair_of old pair h in
        let other = Any-dedup code-equivalence moved one.0 (Contains-permutation old moved one.0 permutation one.1) in
        let kept : Contains new other.1 = rw is (other.0, other.2, other.3) in
        let e : pair_of other.1 ≡ pair = sym (code-same one.0 other.1 other.4) ∙ one.2 in
        subst (Contains (map pair_of new)) e (Contains-map pair_of new other.1 kept)

    adds_none : (pair : List ℕ × ℕ) → Contains (map pair_of new) pair → Contains (map pair_of old) pair
    adds_none pair h =
        let one = Contains-from_map pair_of new pair h in
        let before : Contains moved one.0 = Contains-from_dedup code_eq moved one.0 (subst (λ l. Contains l one.0) is one.1) in
        subst (Contains (map pair_of old)) one.2 (Contains-map pair_of old one.0 (Contains-permutation moved old one.0 (IsPermutation-sym old moved permutation) before))

-- the documents of rising pairs are different ones
less_not_same : (child other : List ℕ) (m n : ℕ) → pair_cmp (child, m) (other, n) ≡ Less → child ≡ other → nat_eq m n ≡ false
less_not_same child other m n h same =
    false_from_ne_true (nat_eq m n)
    (λ e. (let documents : m ≡ n = (Decides-eqb m n).0 e in
    let equal : pair_cmp (child, m) (child, m) ≡ Equal = rw (tied_itself nat_list_cmp_total child) (tied_itself nat_cmp_total m) in
    let less : pair_cmp (child, m) (child, m) ≡ Less = (λ i. pair_cmp (child, m) (same i, documents i)) ∙ h in
    cc))

others-differ : (ancestor child : List ℕ) (pair : List ℕ × ℕ) (l : List (List ℕ × ℕ)) → IsChild ancestor child → pair.0 ≡ child
    → AllByRecursion (λ other. IsChild ancestor other.0) l → AllByRecursion (λ other. pair_cmp pair other ≡ Less) l → AllByRecursion (λ n. nat_eq pair.1 n ≡ false) (documents_within child l)
others-differ ancestor child pair [] is_child same children less = tt
others-differ ancestor child pair (other ∷ l) is_child same children less =
    by (is_within child other.0) refl (others-differ ancestor child pair l is_child same children.1 less.1)
  where
    by : (b : Bool) → is_within child other.0 ≡ b → AllByRecursion (λ n. nat_eq pair.1 n ≡ false) (documents_within child l)
        → AllByRecursion (λ n. nat_eq pair.1 n ≡ false) (map (λ (one : List ℕ × ℕ). one.1) (cond b (other ∷ filter (λ one. is_within child one.0) l) (filter (λ one. is_within child one.0) l)))
    by true e rest =
        (less_not_same pair.0 other.0 pair.1 other.1 less.0 (same ∙ same-child ancestor child other.0 other.0 is_child children.0 e (within-itself other.0)), rest)
    by false e rest = rest

documents-distinct : (ancestor child : List ℕ) (l : List (List ℕ × ℕ)) → IsChild ancestor child → AllByRecursion (λ pair. IsChild ancestor pair.0) l → IsStrictlySortedBy pair_cmp l
    → IsDistinct nat_eq (documents_within child l)
unfolding IsStrictlySortedBy IsDistinct
documents-distinct ancestor child [] is_child children rising = tt
documents-distinct ancestor child (pair ∷ l) is_child children rising =
    by (is_within child pair.0) refl (documents-distinct ancestor child l is_child children.1 rising.1)
  where
    by : (b : Bool) → is_within child pair.0 ≡ b → IsDistinct nat_eq (documents_within child l)
        → IsDistinct nat_eq (map (λ (one : List ℕ × ℕ). one.1) (cond b (pair ∷ filter (λ one. is_within child one.0) l) (filter (λ one. is_within child one.0) l)))
    by true e rest =
        (others-differ ancestor child pair l is_child (sym (same-child ancestor child pair.0 pair.0 is_child children.0 e (within-itself pair.0))) children.1 rising.0, rest)
    by false e rest = rest

count-length : (child : List ℕ) (l : List (List ℕ × ℕ)) → count_within child (map (λ (pair : List ℕ × ℕ). pair.0) l) ≡ length (documents_within child l)
count-length child [] = refl
count-length child (pair ∷ l) = by (is_within child pair.0) (count-length child l)
  where
    by : (b : Bool) → count_within child (map (λ (one : List ℕ × ℕ). one.0) l) ≡ length (documents_within child l)
        → length (cond b (pair.0 ∷ filter (is_within child) (map (λ (one : List ℕ × ℕ). one.0) l)) (filter (is_within child) (map (λ (one : List ℕ × ℕ). one.0) l)))
        ≡ length (map (λ (one : List ℕ × ℕ). one.1) (cond b (pair ∷ filter (λ one. is_within child one.0) l) (filter (λ one. is_within child one.0) l)))
    by true e = ap suc e
    by false e = e

-- how many facets of pairs are within a child is how many different documents have one
pub count-distinct : (ancestor : List ℕ) (facets old new : List (List ℕ × ℕ)) (child : List ℕ) → ArePairs ancestor facets old → HasEachOnce old new
    → AllByRecursion (λ pair. IsChild ancestor pair.0) new → IsChild ancestor child
    → count_within child (map (λ (pair : List ℕ × ℕ). pair.0) new) ≡ distinct_count nat_eq (documents_within child facets)
count-distinct ancestor facets old new child p once children is_child =
    count-length child new
    ∙ length-from_keys nat_eq_equiv (documents_within child new) (documents_within child facets) (documents-distinct ancestor child new is_child children once.rising)
    (λ n. sym (documents-same child n old new once.contains) ∙ ap (λ l. is_member nat_eq l n) (p.documents child is_child))

pub children-kept : (ancestor : List ℕ) (facets old new : List (List ℕ × ℕ)) → ArePairs ancestor facets old → HasEachOnce old new → AllByRecursion (λ pair. IsChild ancestor pair.0) new
children-kept ancestor facets old new p once =
    let P = λ (pair : List ℕ × ℕ). IsChild ancestor pair.0 in
    recursion_from_All P new
    (All-weaker (Contains new) P (λ pair h. All-contains P old pair (All-from_recursion P old p.children) ((once.contains pair).1 h)) new (All-contains_itself new))

none-distinct : (l : List ℕ) → distinct_count nat_eq l ≡ 0 → l ≡ []
none-distinct [] e = refl
none-distinct (n ∷ l) e = absurd (by (is_member nat_eq l n) refl (none-distinct l) e)
  where
    by : (b : Bool) → is_member nat_eq l n ≡ b → (distinct_count nat_eq l ≡ 0 → l ≡ []) → length (cond b (unique_keys nat_eq l) (n ∷ unique_keys nat_eq l)) ≡ 0 → ⊥
    by true among rest h = false_true (sym (ap (λ m. is_member nat_eq m n) (rest h)) ∙ among)
    by false among rest h = omega arith

pub document-counts : (ancestor : List ℕ) (facets old new counts : List (List ℕ × ℕ)) → ArePairs ancestor facets old → HasEachOnce old new
    → AreChildCounts ancestor (map (λ (pair : List ℕ × ℕ). pair.0) new) counts → AreDocumentCounts ancestor facets counts
document-counts ancestor facets old new counts p once q =
    let children = children-kept ancestor facets old new p once in
    record {
      each = all-map (λ (entry : List ℕ × ℕ). IsChildCount ancestor (map (λ (pair : List ℕ × ℕ). pair.0) new) entry.0 entry.1) (λ entry. IsDocumentCount ancestor facets entry.0 entry.1)
          (λ entry h. record { is_child = h.is_child; count_is = h.count_is ∙ count-distinct ancestor facets old new entry.0 p once children h.is_child; has_documents = h.has_facets })
          counts q.each;
      rising = q.rising;
      others = λ child is_child all. none-distinct (documents_within child facets) (sym (count-distinct ancestor facets old new child p once children is_child) ∙ q.others child is_child all);
    }

-- the children of rising pairs rise
first_not_less : (x y : Bor (List ℕ) × ℕ) → pair_cmp (pair_of x) (pair_of y) ≡ Less → is_lt (slice_cmp nat_cmp y.0.now x.0.now) ≡ false
first_not_less x y h =
    turned_back (slice_cmp nat_cmp x.0.now y.0.now) (slice_cmp nat_cmp y.0.now x.0.now) (nat_cmp x.1 y.1) (nat_list_cmp_total.antisymm x.0.now y.0.now) h
  where
    turned_back : (o p q : Ordering) → o ≡ ordering_reverse p → ordering_then o q ≡ Less → is_lt p ≡ false
    turned_back o Less q e k = (let gone : ordering_then Greater q ≡ Less = ap (λ r. ordering_then r q) (sym e) ∙ k in cc)
    turned_back o Equal q e k = refl
    turned_back o Greater q e k = refl

abbrev pub children_of : List (Bor (List ℕ) × ℕ) → List (Bor (List ℕ))
children_of items = map (λ (pair : Bor (List ℕ) × ℕ). pair.0) items

pub length-children : (items : List (Bor (List ℕ) × ℕ)) → length (children_of items) ≡ length items
length-children [] = refl
length-children (x ∷ items) = ap suc (length-children items)

pub children-rise : (items : List (Bor (List ℕ) × ℕ)) → IsStrictlySortedBy pair_cmp (map pair_of items) → AreRising (children_of items)
unfolding IsStrictlySortedBy
children-rise [] h k d low inside = absurd (omega arith)
children-rise (x ∷ []) h k d low inside = absurd (omega arith)
children-rise (x ∷ y ∷ items) h zero d low inside = first_not_less x y h.0.0
children-rise (x ∷ y ∷ items) h (suc k) d low inside = rw add-one (rw add-one at (children-rise (y ∷ items) h.1 k d (omega arith) (omega arith)))

abbrev pub no_pair : Bor (List ℕ) × ℕ
no_pair = (nothing, 0)

pub child-at : (items : List (Bor (List ℕ) × ℕ)) (i : ℕ) → i < length items → get_or (children_of items) i nothing ≡ (get_or items i no_pair).0
child-at items i inside = get_or-map (λ (pair : Bor (List ℕ) × ℕ). pair.0) items i no_pair nothing inside

pub child-is : (ancestor : List ℕ) (items : List (Bor (List ℕ) × ℕ)) (i : ℕ) → AllByRecursion (λ pair. IsChild ancestor pair.0) (map pair_of items) → i < length items
    → IsChild ancestor (get_or items i no_pair).0.now
child-is ancestor [] i h inside = absurd (omega arith)
child-is ancestor (x ∷ items) zero h inside = h.0
child-is ancestor (x ∷ items) (suc i) h inside = child-is ancestor items i h.1 (omega arith)

pub children-all : (items : List (Bor (List ℕ) × ℕ)) → map (λ (facet : Bor (List ℕ)). facet.now) (children_of items) ≡ map (λ (pair : List ℕ × ℕ). pair.0) (map pair_of items)
children-all [] = refl
children-all (x ∷ items) = ap (λ l. x.0.now ∷ l) (children-all items)
