-- What a document by names is converted back to.
use Rattle.std.proofs.Common.{◌≡◌, ◌≢◌, ◌⊎◌, ℕ, zero, suc, ◌<◌, ◌≤◌, Bool, false, Option, Some, None, List, [], ◌∷◌, ◌++◌, length, map, get_or, refl, sym, ap, subst, ◌∙◌, append-nil, arith, inl, inr, Ordering, Less, Equal, Greater}
use Rattle.std.specs.Prelude.{nat_eq, slice_get, option_map, IsSomeAnd}
use Rattle.std.specs.BTreeMap.{insert_entry}
use Rattle.std.specs.Cmp.Lexicographic.{slice_cmp}
use Rattle.std.specs.List.{AllPairs, All, Contains, filter}
use Rattle.std.specs.Ordering.{is_eq, match_ordering, nat_cmp}
use Rattle.std.proofs.lemmas.Bool.Decides.{Decides-eqb, nat_tests}
use Rattle.std.proofs.lemmas.List.{length-map, map-append}
use Rattle.std.proofs.lemmas.List.Elements.{All-contains, filter-append}
use Rattle.std.proofs.lemmas.List.Kept.{AllPairs-from_increasing}
use Rattle.std.proofs.lemmas.Map.Text.{is_eq-slice_cmp}
use Rattle.std.proofs.lemmas.Option.{slice_get-get_or, slice_get-map, slice_get_within}
use Rattle.std.proofs.lemmas.Slice.Eq.{bytes_eq-Decides}
use Rattle.tv_field.specs.Entry.{Entry}
use Rattle.tv_schema.specs.Schema.{field_named}
use Rattle.tv_format.specs.Tree.{Tree, Document}
use Rattle.tv_doc.specs.Belongs.{Belongs}
use Rattle.tv_doc.specs.Named.{Named, IsNamed, by_name, field_names, put_under}
use Rattle.tv_doc.specs.NamedPairs.{named_pairs, pairs_of_field}
use Rattle.tv_doc.specs.FieldValues.{values_of}
use Rattle.tv_doc.proofs.FieldTexts.{first_in, later_in, in_cases}
use Rattle.tv_doc.proofs.Grouping.{nil_or}

-- ---- lists

nil_left : {A : Type 0} (xs ys : List A) → xs ++ ys ≡ [] → xs ≡ []
nil_left [] ys e = refl
nil_left (x ∷ xs) ys e = absurd (cc)

nil_right : {A : Type 0} (xs ys : List A) → xs ++ ys ≡ [] → ys ≡ []
nil_right [] ys e = e
nil_right (x ∷ xs) ys e = absurd (cc)

differs : (g f : ℕ) → (g ≡ f → ⊥) → nat_eq g f ≡ false
differs g f h = grind (arith, nat_tests)

same_text : (a b : List ℕ) → slice_cmp nat_cmp a b ≡ Equal → a ≡ b
same_text a b e = (bytes_eq-Decides a b).0 (sym (is_eq-slice_cmp a b) ∙ ap is_eq e)

-- ---- the values of a field among the pairs of names

pub values_append : (f : ℕ) (a b : Document) → values_of f (a ++ b) ≡ values_of f a ++ values_of f b
values_append f a b =
    let test : ℕ × Tree → Bool = λ p. nat_eq p.0 f in
    let value : ℕ × Tree → Tree = λ p. p.1 in
    ap (map value) (filter-append test a b) ∙ map-append value (filter test a) (filter test b)

pairs_same : (f : ℕ) (ts : List Tree) → values_of f (map (λ t. (f, t)) ts) ≡ ts
pairs_same f [] = refl
pairs_same f (t ∷ ts) = let yes = (Decides-eqb f f).1 refl in rw yes (ap (λ l. t ∷ l) (pairs_same f ts))

pairs_other : (f g : ℕ) (ts : List Tree) → nat_eq g f ≡ false → values_of f (map (λ t. (g, t)) ts) ≡ []
pairs_other f g [] e = refl
pairs_other f g (t ∷ ts) e = rw e (pairs_other f g ts e)

at_field : (f : ℕ) (o : Option ℕ) (ts : List Tree) → o ≡ Some f → values_of f (pairs_of_field o ts) ≡ ts
at_field f o ts e = ap (λ q. values_of f (pairs_of_field q ts)) e ∙ pairs_same f ts

at_other : (f g : ℕ) (o : Option ℕ) (ts : List Tree) → o ≡ Some g → nat_eq g f ≡ false → values_of f (pairs_of_field o ts) ≡ []
at_other f g o ts e other = ap (λ q. values_of f (pairs_of_field q ts)) e ∙ pairs_other f g ts other

-- the values of a field under the names that are its own
abbrev found_under : List Entry → ℕ → Named → List Tree
found_under schema f named = values_of f (named_pairs schema named)

abbrev part : List Entry → ℕ → List ℕ × List Tree → List Tree
part schema f n = values_of f (pairs_of_field (field_named schema n.0) n.1)

under_first : (schema : List Entry) (f : ℕ) (n : List ℕ × List Tree) (ns : Named) → found_under schema f (n ∷ ns) ≡ part schema f n ++ found_under schema f ns
under_first schema f n ns = values_append f (pairs_of_field (field_named schema n.0) n.1) (named_pairs schema ns)

-- ---- what is put under a name

put_same : (schema : List Entry) (f : ℕ) (name : List ℕ) (ts : List Tree) → field_named schema name ≡ Some f → (ns : Named) → found_under schema f ns ≡ [] → found_under schema f (insert_entry (slice_cmp nat_cmp) ns name ts) ≡ ts
put_same schema f name ts is [] none = under_first schema f (name, ts) [] ∙ append-nil (part schema f (name, ts)) ∙ at_field f (field_named schema name) ts is
put_same schema f name ts is (n ∷ ns) none = by_order (slice_cmp nat_cmp name n.0) refl (put_same schema f name ts is ns later)
  where
    both : part schema f n ++ found_under schema f ns ≡ []
    both = sym (under_first schema f n ns) ∙ none

    first : part schema f n ≡ []
    first = nil_left (part schema f n) (found_under schema f ns) both

    later : found_under schema f ns ≡ []
    later = nil_right (part schema f n) (found_under schema f ns) both

    by_order : (o : Ordering) → slice_cmp nat_cmp name n.0 ≡ o → found_under schema f (insert_entry (slice_cmp nat_cmp) ns name ts) ≡ ts
        → found_under schema f (match_ordering o ((name, ts) ∷ n ∷ ns) ((n.0, ts) ∷ ns) (n ∷ insert_entry (slice_cmp nat_cmp) ns name ts)) ≡ ts
    by_order Less e rest = under_first schema f (name, ts) (n ∷ ns) ∙ ap (λ l. part schema f (name, ts) ++ l) none ∙ append-nil (part schema f (name, ts)) ∙ at_field f (field_named schema name) ts is
    by_order Equal e rest =
        under_first schema f (n.0, ts) ns ∙ ap (λ l. part schema f (n.0, ts) ++ l) later ∙ append-nil (part schema f (n.0, ts))
        ∙ at_field f (field_named schema n.0) ts (ap (field_named schema) (sym (same_text name n.0 e)) ∙ is)
    by_order Greater e rest = under_first schema f n (insert_entry (slice_cmp nat_cmp) ns name ts) ∙ ap (λ l. l ++ found_under schema f (insert_entry (slice_cmp nat_cmp) ns name ts)) first ∙ rest

put_other : (schema : List Entry) (f g : ℕ) (name : List ℕ) (ts : List Tree) → field_named schema name ≡ Some g → nat_eq g f ≡ false → (ns : Named) → found_under schema f (insert_entry (slice_cmp nat_cmp) ns name ts) ≡ found_under schema f ns
put_other schema f g name ts is other [] = under_first schema f (name, ts) [] ∙ append-nil (part schema f (name, ts)) ∙ at_other f g (field_named schema name) ts is other
put_other schema f g name ts is other (n ∷ ns) = by_order (slice_cmp nat_cmp name n.0) refl (put_other schema f g name ts is other ns)
  where
    by_order : (o : Ordering) → slice_cmp nat_cmp name n.0 ≡ o → found_under schema f (insert_entry (slice_cmp nat_cmp) ns name ts) ≡ found_under schema f ns
        → found_under schema f (match_ordering o ((name, ts) ∷ n ∷ ns) ((n.0, ts) ∷ ns) (n ∷ insert_entry (slice_cmp nat_cmp) ns name ts)) ≡ found_under schema f (n ∷ ns)
    by_order Less e rest = under_first schema f (name, ts) (n ∷ ns) ∙ ap (λ l. l ++ found_under schema f (n ∷ ns)) (at_other f g (field_named schema name) ts is other)
    by_order Equal e rest =
        let same : field_named schema n.0 ≡ Some g = ap (field_named schema) (sym (same_text name n.0 e)) ∙ is in
        under_first schema f (n.0, ts) ns ∙ ap (λ l. l ++ found_under schema f ns) (at_other f g (field_named schema n.0) ts same other)
        ∙ sym (under_first schema f n ns ∙ ap (λ l. l ++ found_under schema f ns) (at_other f g (field_named schema n.0) n.1 same other))
    by_order Greater e rest = under_first schema f n (insert_entry (slice_cmp nat_cmp) ns name ts) ∙ ap (λ l. part schema f n ++ l) rest ∙ sym (under_first schema f n ns)

-- ---- the groups of a document, one after the other

-- each field is found by its name
abbrev pub FoundByName : List Entry → Type 0
FoundByName schema = (number : ℕ) (entry : Entry) → slice_get schema number ≡ Some entry → field_named schema entry.name ≡ Some number

name_of_entry : (schema : List Entry) (g : ℕ) (name : List ℕ) (o : Option Entry) → slice_get schema g ≡ o → option_map (λ entry. entry.name) o ≡ Some name → FoundByName schema → field_named schema name ≡ Some g
name_of_entry schema g name None at e found = absurd (cc)
name_of_entry schema g name (Some entry) at e found = let same : entry.name ≡ name = cc in ap (field_named schema) (sym same) ∙ found g entry at

named_field : (schema : List Entry) (g : ℕ) (name : List ℕ) → FoundByName schema → slice_get (field_names schema) g ≡ Some name → field_named schema name ≡ Some g
named_field schema g name found e = name_of_entry schema g name (slice_get schema g) refl (sym (slice_get-map (λ entry. entry.name) schema g) ∙ e) found

abbrev groups_of : Document → List ℕ → List (ℕ × List Tree)
groups_of d fields = map (λ field. (field, values_of field d)) fields

under_other : (schema : List Entry) (found : FoundByName schema) (f g : ℕ) (ts : List Tree) (ns : Named) (o : Option (List ℕ)) → slice_get (field_names schema) g ≡ o → nat_eq g f ≡ false → found_under schema f (put_under o ts ns) ≡ found_under schema f ns
under_other schema found f g ts ns None e other = refl
under_other schema found f g ts ns (Some name) e other = put_other schema f g name ts (named_field schema g name found e) other ns

under_same : (schema : List Entry) (found : FoundByName schema) (f : ℕ) (ts : List Tree) (ns : Named) → f < length schema → found_under schema f ns ≡ [] → found_under schema f (put_under (slice_get (field_names schema) f) ts ns) ≡ ts
under_same schema found f ts ns within none =
    let name = get_or (field_names schema) f [] in
    let at : slice_get (field_names schema) f ≡ Some name = slice_get-get_or (field_names schema) f [] (omega (arith, length-map schema (λ entry. entry.name))) in
    ap (λ o. found_under schema f (put_under o ts ns)) at ∙ put_same schema f name ts (named_field schema f name found at) ns none

absent : (schema : List Entry) (found : FoundByName schema) (d : Document) (f : ℕ) (fields : List ℕ) (ns : Named) → (Contains fields f → ⊥) → found_under schema f (by_name (field_names schema) (groups_of d fields) ns) ≡ found_under schema f ns
absent schema found d f [] ns h = refl
absent schema found d f (g ∷ fields) ns h =
    absent schema found d f fields (put_under (slice_get (field_names schema) g) (values_of g d) ns) (λ c. h (later_in g fields f c))
    ∙ under_other schema found f g (values_of g d) ns (slice_get (field_names schema) g) refl (differs g f (λ e. h (subst (Contains (g ∷ fields)) e (first_in g fields))))

abbrev Up : List ℕ → Type 0
Up fields = AllPairs (λ x y. x < y) fields

up_rest : (g : ℕ) (fields : List ℕ) → Up (g ∷ fields) → Up fields
up_rest g fields up i j d lt within = up (suc i) (suc j) d (omega arith) (omega arith)

up_first : (g : ℕ) (fields : List ℕ) → Up (g ∷ fields) → All (λ h. g < h) fields
up_first g fields up k d within = up 0 (suc k) d (omega arith) (omega arith)

present : (schema : List Entry) (found : FoundByName schema) (d : Document) (f : ℕ) (fields : List ℕ) (ns : Named) → f < length schema → Up fields → Contains fields f → found_under schema f ns ≡ []
    → found_under schema f (by_name (field_names schema) (groups_of d fields) ns) ≡ values_of f d
present schema found d f [] ns within up c none = absurd (omega (arith, c.1))
present schema found d f (g ∷ fields) ns within up c none =
    by_cases
    (λ rest left. present schema found d f fields (put_under (slice_get (field_names schema) g) (values_of g d) ns) within (up_rest g fields up) rest left)
    (in_cases g fields f c)
  where
    below : (h : ℕ) → Contains fields h → g < h
    below h c = All-contains (λ x. g < x) fields h (up_first g fields up) c

    first : g ≡ f → found_under schema f (by_name (field_names schema) (groups_of d fields) (put_under (slice_get (field_names schema) g) (values_of g d) ns)) ≡ values_of f d
    first e =
        absent schema found d f fields (put_under (slice_get (field_names schema) g) (values_of g d) ns) (λ c. let low = below f c in absurd (omega arith))
        ∙ ap (λ h. found_under schema f (put_under (slice_get (field_names schema) h) (values_of h d) ns)) e ∙ under_same schema found f (values_of f d) ns within none

    by_cases : (Contains fields f → found_under schema f (put_under (slice_get (field_names schema) g) (values_of g d) ns) ≡ []
        → found_under schema f (by_name (field_names schema) (groups_of d fields) (put_under (slice_get (field_names schema) g) (values_of g d) ns)) ≡ values_of f d)
        → (g ≡ f) ⊎ Contains fields f → found_under schema f (by_name (field_names schema) (groups_of d fields) (put_under (slice_get (field_names schema) g) (values_of g d) ns)) ≡ values_of f d
    by_cases again (inl e) = first e
    by_cases again (inr rest) = let low = below f rest in again rest (under_other schema found f g (values_of g d) ns (slice_get (field_names schema) g) refl (differs g f (λ e. absurd (omega arith))) ∙ none)

pub names_keep_values : (schema : List Entry) (d : Document) (named : Named) (f : ℕ) → FoundByName schema → IsNamed (field_names schema) d named → f < length schema → values_of f (named_pairs schema named) ≡ values_of f d
names_keep_values schema d named f found n within = ap (found_under schema f) (n.2 ∙ ap (λ groups. by_name (field_names schema) groups []) n.1.is) ∙ by_values (nil_or (values_of f d))
  where
    by_values : (values_of f d ≡ []) ⊎ (values_of f d ≢ []) → found_under schema f (by_name (field_names schema) (groups_of d n.1.fields) []) ≡ values_of f d
    by_values (inl none) = absent schema found d f n.1.fields [] (λ c. (n.1.exact f).0 c none) ∙ sym none
    by_values (inr some) = present schema found d f n.1.fields [] within (AllPairs-from_increasing n.1.fields n.1.rising) ((n.1.exact f).1 some) refl

-- ---- numbers that are no fields

-- a name is that of a field of the schema
abbrev pub NamesField : List Entry → Type 0
NamesField schema = (name : List ℕ) (number : ℕ) → field_named schema name ≡ Some number → IsSomeAnd (slice_get schema number) (λ entry. entry.name ≡ name)

some_within : (schema : List Entry) (name : List ℕ) (g : ℕ) (o : Option Entry) → slice_get schema g ≡ o → IsSomeAnd o (λ entry. entry.name ≡ name) → g < length schema
some_within schema name g None e h = absurd h
some_within schema name g (Some entry) e h = slice_get_within schema g entry e

part_none : (schema : List Entry) → NamesField schema → (f : ℕ) → length schema ≤ f → (name : List ℕ) (ts : List Tree) (o : Option ℕ) → field_named schema name ≡ o → values_of f (pairs_of_field o ts) ≡ []
part_none schema names f past name ts None e = refl
part_none schema names f past name ts (Some g) e =
    let within = some_within schema name g (slice_get schema g) refl (names name g e) in
    pairs_other f g ts (differs g f (λ same. absurd (omega arith)))

pub no_other_fields : (schema : List Entry) (named : Named) (f : ℕ) → NamesField schema → length schema ≤ f → values_of f (named_pairs schema named) ≡ []
no_other_fields schema [] f names past = refl
no_other_fields schema (n ∷ ns) f names past =
    under_first schema f n ns ∙ ap (λ l. l ++ found_under schema f ns) (part_none schema names f past n.0 n.1 (field_named schema n.0) refl) ∙ no_other_fields schema ns f names past

belongs_none : (schema : List Entry) (d : Document) (f : ℕ) → Belongs schema d → length schema ≤ f → values_of f d ≡ []
belongs_none schema [] f all past = refl
belongs_none schema (p ∷ d) f all past =
    let first = all.0 in
    let other : nat_eq p.0 f ≡ false = differs p.0 f (λ e. absurd (omega arith)) in
    rw other (belongs_none schema d f all.1 past)

within_or : (m n : ℕ) → (m < n) ⊎ (n ≤ m)
within_or m zero = inr (omega arith)
within_or zero (suc n) = inl (omega arith)
within_or (suc m) (suc n) = elim (within_or m n) [ inl h ↦ inl (omega arith) | inr h ↦ inr (omega arith) ]

pub names_keep_all : (schema : List Entry) (d : Document) (named : Named) → FoundByName schema → NamesField schema → IsNamed (field_names schema) d named → Belongs schema d → (f : ℕ) → values_of f (named_pairs schema named) ≡ values_of f d
names_keep_all schema d named found names n all f = by_place (within_or f (length schema))
  where
    by_place : (f < length schema) ⊎ (length schema ≤ f) → values_of f (named_pairs schema named) ≡ values_of f d
    by_place (inl within) = names_keep_values schema d named f found n within
    by_place (inr past) = no_other_fields schema named f names past ∙ sym (belongs_none schema d f all past)

-- each field has its values, or none
pub names_keep_some : (schema : List Entry) (d : Document) (named : Named) → FoundByName schema → NamesField schema → IsNamed (field_names schema) d named
    → (f : ℕ) → (values_of f (named_pairs schema named) ≡ []) ⊎ (values_of f (named_pairs schema named) ≡ values_of f d)
names_keep_some schema d named found names n f =
    elim (within_or f (length schema)) [ inl within ↦ inr (names_keep_values schema d named f found n within) | inr past ↦ inl (no_other_fields schema named f names past) ]

-- ---- all pairs are of the schema

belongs_append : (schema : List Entry) (a b : Document) → Belongs schema a → Belongs schema b → Belongs schema (a ++ b)
belongs_append schema [] b x y = y
belongs_append schema (p ∷ a) b x y = (x.0, belongs_append schema a b x.1 y)

belongs_field : (schema : List Entry) (g : ℕ) (ts : List Tree) → g < length schema → Belongs schema (map (λ t. (g, t)) ts)
belongs_field schema g [] within = tt
belongs_field schema g (t ∷ ts) within = (within, belongs_field schema g ts within)

belongs_part : (schema : List Entry) → NamesField schema → (name : List ℕ) (ts : List Tree) (o : Option ℕ) → field_named schema name ≡ o → Belongs schema (pairs_of_field o ts)
belongs_part schema names name ts None e = tt
belongs_part schema names name ts (Some g) e = belongs_field schema g ts (some_within schema name g (slice_get schema g) refl (names name g e))

pub named_pairs_belong : (schema : List Entry) → NamesField schema → (named : Named) → Belongs schema (named_pairs schema named)
named_pairs_belong schema names [] = tt
named_pairs_belong schema names (n ∷ ns) =
    belongs_append schema (pairs_of_field (field_named schema n.0) n.1) (named_pairs schema ns) (belongs_part schema names n.0 n.1 (field_named schema n.0) refl) (named_pairs_belong schema names ns)
