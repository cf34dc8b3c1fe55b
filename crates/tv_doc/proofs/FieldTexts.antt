-- The texts of a document's values, beside their fields.
use Rattle.std.proofs.Common.{◌≡◌, ◌⊎◌, ◌↔◌, ◌||◌, ℕ, Bool, true, false, cond, IsTrue, String, Global, string_bytes, string_cmp, Ordering, Less, Equal, Greater, nat_cmp, List, [], ◌∷◌, ◌++◌, map, refl, sym, ap, subst, ◌∙◌, arith, inl, inr}
use Rattle.std.specs.Prelude.{nat_eq}
use Rattle.std.specs.List.{Contains, filter, list_any}
use Rattle.std.specs.BTreeSet.{insert_key}
use Rattle.std.specs.Cmp.Lexicographic.{slice_cmp}
use Rattle.std.specs.FinMap.{nat_cmp-IsAntisymmetric, slice_cmp-IsAntisymmetric}
use Rattle.std.specs.Ordering.{is_eq, match_ordering, ordering_reverse, ordering_then}
use Rattle.std.proofs.lemmas.Bool.{eqb-true, false≢true}
use Rattle.std.proofs.lemmas.Cmp.{nat_cmp_total, nat_list_cmp_total}
use Rattle.std.proofs.lemmas.Bool.Decides.{Decides-eqb}
use Rattle.std.proofs.lemmas.List.{map-append}
use Rattle.std.proofs.lemmas.List.Elements.{Contains-append_left, Contains-append_right, Contains-append_cases, Contains-push, Contains-push_cases}
use Rattle.tv_format.specs.Tree.{Document}
use Rattle.tv_value.specs.declared.field.Field.{Field}
use Rattle.tv_doc.specs.SameTexts.{HasAll, IsSameSet, SameTexts, field_texts, json_text, text_seen}
use Rattle.tv_doc.specs.FieldValues.{values_of}
use Rattle.tv_doc.proofs.Grouping.{values_seen}

-- ---- the elements of a list by its first

pub first_in : {X : Type 0} (x : X) (xs : List X) → Contains (x ∷ xs) x
first_in x xs = Contains-append_left (x ∷ []) xs x (Contains-push [] x)

pub later_in : {X : Type 0} (x : X) (xs : List X) (y : X) → Contains xs y → Contains (x ∷ xs) y
later_in x xs y c = Contains-append_right (x ∷ []) xs y c

pub in_cases : {X : Type 0} (x : X) (xs : List X) (y : X) → Contains (x ∷ xs) y → (x ≡ y) ⊎ Contains xs y
in_cases x xs y c = by_part (Contains-append_cases (x ∷ []) xs y c)
  where
    by_place : Contains [] y ⊎ (x ≡ y) → (x ≡ y) ⊎ Contains xs y
    by_place (inl none) = absurd (omega (arith, none.1))
    by_place (inr same) = inl same

    by_part : Contains (x ∷ []) y ⊎ Contains xs y → (x ≡ y) ⊎ Contains xs y
    by_part (inl one) = by_place (Contains-push_cases [] x y one)
    by_part (inr rest) = inr rest

-- ---- a value of a field, and the pair of both

in_pairs : {A : Type 0} (f : ℕ) (t : A) (xs : List (ℕ × A)) → Contains (values_of f xs) t → Contains xs (f, t)
in_pairs f t [] c = absurd (omega (arith, c.1))
in_pairs {A = A} f t (p ∷ xs) c = by_test (nat_eq p.0 f) refl (in_pairs f t xs) c
  where
    by_cases : nat_eq p.0 f ≡ true → (Contains (values_of f xs) t → Contains xs (f, t)) → (p.1 ≡ t) ⊎ Contains (values_of f xs) t → Contains (p ∷ xs) (f, t)
    by_cases e rest (inl same) = let number = eqb-true p.0 f e in let pair : p ≡ (f, t) = λ i. (number i, same i) in subst (Contains (p ∷ xs)) pair (first_in p xs)
    by_cases e rest (inr later) = later_in p xs (f, t) (rest later)

    by_test : (b : Bool) → nat_eq p.0 f ≡ b → (Contains (values_of f xs) t → Contains xs (f, t)) → Contains (map (λ q. q.1) (cond b (p ∷ filter (λ q. nat_eq q.0 f) xs) (filter (λ q. nat_eq q.0 f) xs))) t → Contains (p ∷ xs) (f, t)
    by_test true e rest c = by_cases e rest (in_cases p.1 (values_of f xs) t c)
    by_test false e rest c = later_in p xs (f, t) (rest c)

in_values : {A : Type 0} (f : ℕ) (t : A) (xs : List (ℕ × A)) → Contains xs (f, t) → Contains (values_of f xs) t
in_values f t [] c = absurd (omega (arith, c.1))
in_values {A = A} f t (p ∷ xs) c = by_test (in_values f t xs) (nat_eq p.0 f) refl (in_cases p xs (f, t) c)
  where
    by_test : (Contains xs (f, t) → Contains (values_of f xs) t) → (b : Bool) → nat_eq p.0 f ≡ b → (p ≡ (f, t)) ⊎ Contains xs (f, t) → Contains (map (λ q. q.1) (cond b (p ∷ filter (λ q. nat_eq q.0 f) xs) (filter (λ q. nat_eq q.0 f) xs))) t
    by_test later true e (inl same) = subst (Contains (p.1 ∷ values_of f xs)) (ap (λ q. q.1) same) (first_in p.1 (values_of f xs))
    by_test later true e (inr rest) = later_in p.1 (values_of f xs) t (later rest)
    by_test later false e (inl same) = let yes = (Decides-eqb p.0 f).1 (ap (λ q. q.0) same) in absurd (cc)
    by_test later false e (inr rest) = later rest

pub values_contain : {A : Type 0} (f : ℕ) (t : A) (xs : List (ℕ × A)) → Contains (values_of f xs) t ↔ Contains xs (f, t)
values_contain f t xs = (in_pairs f t xs, in_values f t xs)

text_contain : (d : Document) (f : ℕ) (text : List ℕ) → Contains (map json_text (values_of f d)) text ↔ Contains (field_texts d) (f, text)
text_contain d f text = subst (λ l. Contains l text ↔ Contains (field_texts d) (f, text)) (values_seen json_text f d) (values_contain f text (field_texts d))

-- ---- both ways

pub same_texts : (d e : Document) → HasAll (field_texts d) (field_texts e) → HasAll (field_texts e) (field_texts d) → SameTexts d e
same_texts d e there back f text = (
  λ c. (text_contain e f text).1 (back (f, text) ((text_contain d f text).0 c)),
  λ c. (text_contain d f text).1 (there (f, text) ((text_contain e f text).0 c)),
)

pub has_all : (d e : Document) → SameTexts d e → HasAll (field_texts d) (field_texts e)
has_all d e same pair c = (text_contain d pair.0 pair.1).0 ((same pair.0 pair.1).1 ((text_contain e pair.0 pair.1).1 c))

pub has_all_back : (d e : Document) → SameTexts d e → HasAll (field_texts e) (field_texts d)
has_all_back d e same pair c = (text_contain e pair.0 pair.1).0 ((same pair.0 pair.1).0 ((text_contain d pair.0 pair.1).1 c))

-- ---- texts in a set

abbrev Text : Type 0
Text = Field × String Global

-- the order of the set
abbrev pub text_cmp : Text → Text → Ordering
text_cmp x y = ordering_then (nat_cmp x.0.id y.0.id) (string_cmp x.1 y.1)

both_equal : (a b : Ordering) → is_eq (ordering_then a b) ≡ true → (a ≡ Equal) × (b ≡ Equal)
both_equal Less b e = absurd (cc)
both_equal Greater b e = absurd (cc)
both_equal Equal Less e = absurd (cc)
both_equal Equal Greater e = absurd (cc)
both_equal Equal Equal e = (refl, refl)

turned_equal : (o : Ordering) → o ≡ ordering_reverse o → o ≡ Equal
turned_equal Less e = absurd (cc)
turned_equal Equal e = refl
turned_equal Greater e = absurd (cc)

same_seen : (x y : Text) → is_eq (text_cmp x y) ≡ true → text_seen x ≡ text_seen y
same_seen x y e =
    let both = both_equal (nat_cmp x.0.id y.0.id) (string_cmp x.1 y.1) e in
    let number = nat_cmp-IsAntisymmetric x.0.id y.0.id both.0 in
    let bytes = slice_cmp-IsAntisymmetric nat_cmp-IsAntisymmetric (string_bytes x.1) (string_bytes y.1) both.1 in
    λ i. (number i, bytes i)

seen_same : (x y : Text) → text_seen y ≡ text_seen x → is_eq (text_cmp x y) ≡ true
seen_same x y same =
    let number : nat_cmp x.0.id y.0.id ≡ Equal = ap (nat_cmp x.0.id) (ap (λ p. p.0) same) ∙ turned_equal _ (nat_cmp_total.antisymm x.0.id x.0.id) in
    let bytes : string_cmp x.1 y.1 ≡ Equal = ap (slice_cmp nat_cmp (string_bytes x.1)) (ap (λ p. p.1) same) ∙ turned_equal _ (nat_list_cmp_total.antisymm (string_bytes x.1) (string_bytes x.1)) in
    rw (number, bytes) refl

found : (x : Text) (ks : List Text) → list_any (λ y. is_eq (text_cmp x y)) ks ≡ true → Contains (map text_seen ks) (text_seen x)
found x [] e = absurd (false≢true e)
found x (k ∷ ks) e = by_test (found x ks) (is_eq (text_cmp x k)) refl e
  where
    by_test : (list_any (λ y. is_eq (text_cmp x y)) ks ≡ true → Contains (map text_seen ks) (text_seen x)) → (b : Bool) → is_eq (text_cmp x k) ≡ b → (b || list_any (λ y. is_eq (text_cmp x y)) ks) ≡ true
        → Contains (map text_seen (k ∷ ks)) (text_seen x)
    by_test later true is e = subst (Contains (map text_seen (k ∷ ks))) (sym (same_seen x k is)) (first_in (text_seen k) (map text_seen ks))
    by_test later false is e = later_in (text_seen k) (map text_seen ks) (text_seen x) (later e)

held : (x : Text) (ks : List Text) → Contains (map text_seen ks) (text_seen x) → list_any (λ y. is_eq (text_cmp x y)) ks ≡ true
held x [] c = absurd (omega (arith, c.1))
held x (k ∷ ks) c = by_case (held x ks) (is_eq (text_cmp x k)) refl (in_cases (text_seen k) (map text_seen ks) (text_seen x) c)
  where
    by_case : (Contains (map text_seen ks) (text_seen x) → list_any (λ y. is_eq (text_cmp x y)) ks ≡ true) → (b : Bool) → is_eq (text_cmp x k) ≡ b → (text_seen k ≡ text_seen x) ⊎ Contains (map text_seen ks) (text_seen x) → (b || list_any (λ y. is_eq (text_cmp x y)) ks) ≡ true
    by_case later true is c = refl
    by_case later false is (inl same) = absurd (false≢true (sym is ∙ seen_same x k same))
    by_case later false is (inr rest) = later rest

-- the set has a text exactly where it is seen among its texts
pub is_seen : (x : Text) (ks : List Text) → list_any (λ y. is_eq (text_cmp x y)) ks ≡ true ↔ Contains (map text_seen ks) (text_seen x)
is_seen x ks = (found x ks, held x ks)

-- ---- a text that is inserted

inserted : (k : Text) (ks : List Text) (p : ℕ × List ℕ) → Contains (map text_seen (insert_key text_cmp ks k)) p → (text_seen k ≡ p) ⊎ Contains (map text_seen ks) p
inserted k [] p c = in_cases (text_seen k) [] p c
inserted k (x ∷ ks) p c = by_order (inserted k ks p) (text_cmp k x) refl c
  where
    by_rest : (text_seen k ≡ p) ⊎ Contains (map text_seen ks) p → (text_seen k ≡ p) ⊎ Contains (map text_seen (x ∷ ks)) p
    by_rest (inl same) = inl same
    by_rest (inr rest) = inr (later_in (text_seen x) (map text_seen ks) p rest)

    by_later : (Contains (map text_seen (insert_key text_cmp ks k)) p → (text_seen k ≡ p) ⊎ Contains (map text_seen ks) p) → (text_seen x ≡ p) ⊎ Contains (map text_seen (insert_key text_cmp ks k)) p
        → (text_seen k ≡ p) ⊎ Contains (map text_seen (x ∷ ks)) p
    by_later later (inl same) = inr (subst (Contains (map text_seen (x ∷ ks))) same (first_in (text_seen x) (map text_seen ks)))
    by_later later (inr rest) = by_rest (later rest)

    by_order : (Contains (map text_seen (insert_key text_cmp ks k)) p → (text_seen k ≡ p) ⊎ Contains (map text_seen ks) p) → (o : Ordering) → text_cmp k x ≡ o → Contains (map text_seen (match_ordering o (k ∷ x ∷ ks) (x ∷ ks) (x ∷ insert_key text_cmp ks k))) p → (text_seen k ≡ p) ⊎ Contains (map text_seen (x ∷ ks)) p
    by_order later Less is c = in_cases (text_seen k) (map text_seen (x ∷ ks)) p c
    by_order later Equal is c = inr c
    by_order later Greater is c = by_later later (in_cases (text_seen x) (map text_seen (insert_key text_cmp ks k)) p c)

stays : (k : Text) (ks : List Text) (p : ℕ × List ℕ) → (text_seen k ≡ p) ⊎ Contains (map text_seen ks) p → Contains (map text_seen (insert_key text_cmp ks k)) p
stays k [] p (inl same) = subst (Contains (text_seen k ∷ [])) same (first_in (text_seen k) [])
stays k [] p (inr none) = absurd (omega (arith, none.1))
stays k (x ∷ ks) p c = by_order (stays k ks p) (text_cmp k x) refl c
  where
    by_later : ((text_seen k ≡ p) ⊎ Contains (map text_seen ks) p → Contains (map text_seen (insert_key text_cmp ks k)) p) → (text_seen k ≡ p) ⊎ ((text_seen x ≡ p) ⊎ Contains (map text_seen ks) p)
        → Contains (map text_seen (x ∷ insert_key text_cmp ks k)) p
    by_later later (inl same) = later_in (text_seen x) (map text_seen (insert_key text_cmp ks k)) p (later (inl same))
    by_later later (inr (inl same)) = subst (Contains (map text_seen (x ∷ insert_key text_cmp ks k))) same (first_in (text_seen x) (map text_seen (insert_key text_cmp ks k)))
    by_later later (inr (inr rest)) = later_in (text_seen x) (map text_seen (insert_key text_cmp ks k)) p (later (inr rest))

    among : (text_seen k ≡ p) ⊎ Contains (map text_seen (x ∷ ks)) p → (text_seen k ≡ p) ⊎ ((text_seen x ≡ p) ⊎ Contains (map text_seen ks) p)
    among (inl same) = inl same
    among (inr c) = inr (in_cases (text_seen x) (map text_seen ks) p c)

    by_order : ((text_seen k ≡ p) ⊎ Contains (map text_seen ks) p → Contains (map text_seen (insert_key text_cmp ks k)) p) → (o : Ordering) → text_cmp k x ≡ o → (text_seen k ≡ p) ⊎ Contains (map text_seen (x ∷ ks)) p
        → Contains (map text_seen (match_ordering o (k ∷ x ∷ ks) (x ∷ ks) (x ∷ insert_key text_cmp ks k))) p
    by_order later Less is (inl same) = subst (Contains (map text_seen (k ∷ x ∷ ks))) same (first_in (text_seen k) (map text_seen (x ∷ ks)))
    by_order later Less is (inr c) = later_in (text_seen k) (map text_seen (x ∷ ks)) p c
    by_order later Equal is (inl same) =
        let one : text_seen k ≡ text_seen x = same_seen k x (ap is_eq is) in
        subst (Contains (map text_seen (x ∷ ks))) (sym one ∙ same) (first_in (text_seen x) (map text_seen ks))
    by_order later Equal is (inr c) = c
    by_order later Greater is c = by_later later (among c)

-- the text goes over from those that are left to the set
pub text_moved : (k : Text) (ks : List Text) (rest whole : List (ℕ × List ℕ)) → IsSameSet (map text_seen ks ++ text_seen k ∷ rest) whole → IsSameSet (map text_seen (insert_key text_cmp ks k) ++ rest) whole
text_moved k ks rest whole same p = (λ c. (same p).0 (to (Contains-append_cases _ rest p c)), λ c. back (Contains-append_cases (map text_seen ks) (text_seen k ∷ rest) p ((same p).1 c)))
  where
    to_set : (text_seen k ≡ p) ⊎ Contains (map text_seen ks) p → Contains (map text_seen ks ++ text_seen k ∷ rest) p
    to_set (inl one) = Contains-append_right (map text_seen ks) (text_seen k ∷ rest) p (subst (Contains (text_seen k ∷ rest)) one (first_in (text_seen k) rest))
    to_set (inr before) = Contains-append_left (map text_seen ks) (text_seen k ∷ rest) p before

    to : Contains (map text_seen (insert_key text_cmp ks k)) p ⊎ Contains rest p → Contains (map text_seen ks ++ text_seen k ∷ rest) p
    to (inl c) = to_set (inserted k ks p c)
    to (inr c) = Contains-append_right (map text_seen ks) (text_seen k ∷ rest) p (later_in (text_seen k) rest p c)

    back_rest : (text_seen k ≡ p) ⊎ Contains rest p → Contains (map text_seen (insert_key text_cmp ks k) ++ rest) p
    back_rest (inl one) = Contains-append_left (map text_seen (insert_key text_cmp ks k)) rest p (stays k ks p (inl one))
    back_rest (inr c) = Contains-append_right (map text_seen (insert_key text_cmp ks k)) rest p c

    back : Contains (map text_seen ks) p ⊎ Contains (text_seen k ∷ rest) p → Contains (map text_seen (insert_key text_cmp ks k) ++ rest) p
    back (inl c) = Contains-append_left (map text_seen (insert_key text_cmp ks k)) rest p (stays k ks p (inr c))
    back (inr c) = back_rest (in_cases (text_seen k) rest p c)

-- ---- texts that are looked for, one after the other

pub seen_among : (before : List Text) (k : Text) (rest : List Text) → Contains (map text_seen (before ++ k ∷ rest)) (text_seen k)
seen_among before k rest =
    subst (λ l. Contains l (text_seen k)) (sym (map-append text_seen before (k ∷ rest)))
    (Contains-append_right (map text_seen before) (text_seen k ∷ map text_seen rest) (text_seen k) (first_in (text_seen k) (map text_seen rest)))

pub all_more : (texts : List (ℕ × List ℕ)) (before : List Text) (k : Text) → HasAll texts (map text_seen before) → Contains texts (text_seen k) → HasAll texts (map text_seen (before ++ k ∷ []))
all_more texts before k all this p c = by_part (Contains-push_cases (map text_seen before) (text_seen k) p (subst (λ l. Contains l p) (map-append text_seen before (k ∷ [])) c))
  where
    by_part : Contains (map text_seen before) p ⊎ (text_seen k ≡ p) → Contains texts p
    by_part (inl earlier) = all p earlier
    by_part (inr same) = subst (Contains texts) same this

-- ---- one set after the other

pub all_moved : (b : Bool) (xs ys xs' ys' : List (ℕ × List ℕ)) → IsSameSet xs xs' → IsSameSet ys ys' → IsTrue b ↔ HasAll xs ys → IsTrue b ↔ HasAll xs' ys'
all_moved b xs ys xs' ys' e f h = (λ is p c. (e p).0 (h.0 is p ((f p).1 c)), λ all. h.1 (λ p c. (e p).1 (all p ((f p).0 c))))
