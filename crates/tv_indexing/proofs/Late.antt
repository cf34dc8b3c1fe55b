-- Reasons of a document that are found only once memory was taken.
use Rattle.std.proofs.Common.{◌≡◌, ◌≢◌, ◌⊎◌, ℕ, Bool, true, false, not, if◌then◌else◌, List, [], ◌∷◌, ◌++◌, Option, Some, None, Ok, Err, slice_get, refl, sym, ap, subst, ◌∙◌, inl, inr}
use Rattle.std.specs.Borrow.{Bor}
use Rattle.tv_base.specs.JsonPath.{joined}
use Rattle.tv_field.specs.Entry.{Entry, is_indexed_type}
use Rattle.tv_field.specs.declared.field_type.FieldType.{FieldType}
use Rattle.tv_field.specs.declared.field_type.FieldType.TheVariants as types
use Rattle.tv_format.specs.Tree.{Document, Entries, Elements, Leaf, Tree, array, boolean, bytes, date, element, entry, facet, ip_address, leaf, no_elements, no_entries, null, object, signed, text, tokenized, unsigned}
use Rattle.tv_indexing.specs.DocumentMemory.{IsBelowKeys, IsFoundLate, first_terms, is_passed, is_unindexed}
use Rattle.tv_indexing.specs.DocumentTerms.{Terms, field_terms, followed_by, has_zero, is_wanted, json_elements_terms, json_entries_terms, json_leaf_terms, json_terms, pair_terms, typed_terms, value_or_refused, wanted_pair_terms}
use Rattle.tv_indexing.specs.LeafTerms.{json_value}
use Rattle.tv_indexing.specs.Visits.{TakesAll}
use Rattle.tv_indexing.specs.declared.document.TermValuesError.{TermValuesError}
use Rattle.tv_indexing.specs.declared.document.TermValuesError.TheVariants.{Memory, NoJsonTerm, NulInPath, UnknownField, WrongType}
use Rattle.tv_options.specs.declared.own_part.DotExpansion.{DotExpansion}
use Rattle.tv_options.specs.declared.textual_options.TextualOptions.{TextualOptions}
use Rattle.tv_term.specs.Key.{TermValue}
use Rattle.tv_value.specs.declared.field.Field.{Field}

-- ---- a value of a field of JSON objects is refused for what stands below its keys

followed_late : (a b : Terms) (why : TermValuesError) → (a ≡ Err why → IsBelowKeys why) → (b ≡ Err why → IsBelowKeys why) → followed_by a b ≡ Err why → IsBelowKeys why
followed_late (Err e) b why first rest is = first is
followed_late (Ok made) (Err e) why first rest is = rest is
followed_late (Ok made) (Ok others) why first rest is = absurd (cc)

value_late : (field : Field) (path : List ℕ) (o : Option TermValue) (why : TermValuesError) → value_or_refused field path o ≡ Err why → IsBelowKeys why
value_late field path None why is = let same : NoJsonTerm field ≡ why = cc in subst IsBelowKeys same tt
value_late field path (Some value) why is = absurd (cc)

leaf_late : (field : Field) (path : List ℕ) (l : Leaf) (why : TermValuesError) → json_leaf_terms field path l ≡ Err why → IsBelowKeys why
leaf_late field path null why is = absurd (cc)
leaf_late field path (text t) why is = value_late field path (json_value (text t)) why is
leaf_late field path (unsigned n) why is = value_late field path (json_value (unsigned n)) why is
leaf_late field path (signed z) why is = value_late field path (json_value (signed z)) why is
leaf_late field path (boolean b) why is = value_late field path (json_value (boolean b)) why is
leaf_late field path (date z) why is = value_late field path (json_value (date z)) why is
leaf_late field path (facet f) why is = value_late field path (json_value (facet f)) why is
leaf_late field path (bytes bs) why is = value_late field path (json_value (bytes bs)) why is
leaf_late field path (ip_address n) why is = value_late field path (json_value (ip_address n)) why is
leaf_late field path (tokenized t ts) why is = value_late field path (json_value (tokenized t ts)) why is

key_late : (field : Field) (has : Bool) (t : Terms) (why : TermValuesError) → (t ≡ Err why → IsBelowKeys why) → (if has then Err (NulInPath field) else t) ≡ Err why → IsBelowKeys why
key_late field true t why below is = let same : NulInPath field ≡ why = cc in subst IsBelowKeys same tt
key_late field false t why below is = below is

mutual
  pub json_late : (field : Field) (d : Bool) (keys : List (List ℕ)) (tree : Tree) (why : TermValuesError) → json_terms field d keys tree ≡ Err why → IsBelowKeys why
  json_late field d keys (leaf l) why is = leaf_late field (joined d keys) l why is
  json_late field d keys (array ts) why is = elements_late field d keys ts why is
  json_late field d keys (object es) why is = entries_late field d keys es why is

  elements_late : (field : Field) (d : Bool) (keys : List (List ℕ)) (ts : Elements) (why : TermValuesError) → json_elements_terms field d keys ts ≡ Err why → IsBelowKeys why
  elements_late field d keys no_elements why is = absurd (cc)
  elements_late field d keys (element t ts) why is =
      followed_late (json_terms field d keys t) (json_elements_terms field d keys ts) why (λ e. json_late field d keys t why e) (λ e. elements_late field d keys ts why e) is

  entries_late : (field : Field) (d : Bool) (keys : List (List ℕ)) (es : Entries) (why : TermValuesError) → json_entries_terms field d keys es ≡ Err why → IsBelowKeys why
  entries_late field d keys no_entries why is = absurd (cc)
  entries_late field d keys (entry k t es) why is =
      followed_late (if has_zero k then Err (NulInPath field) else json_terms field d (keys ++ k ∷ []) t) (json_entries_terms field d keys es) why
      (λ e. key_late field (has_zero k) (json_terms field d (keys ++ k ∷ []) t) why (λ f. json_late field d (keys ++ k ∷ []) t why f) e) (λ e. entries_late field d keys es why e) is

pub pair_late : (schema : List Entry) (field : Field) (tree : Tree) (found : Entry) (type : FieldType) (options : TextualOptions DotExpansion) → slice_get schema field.id ≡ Some found → type ≡ found.field_type → is_indexed_type type ≡ true
    → type ≡ types.JsonObject options → (why : TermValuesError) → pair_terms schema (field.id, tree) ≡ Err why → IsBelowKeys why
pair_late schema field tree found type options at is indexed json why e =
    let known : is_indexed_type found.field_type ≡ true = ap is_indexed_type (sym is) ∙ indexed in
    let pair : pair_terms schema (field.id, tree) ≡ json_terms field options.part.expand_dots_enabled [] tree =
    ap (λ entry. field_terms field entry tree) at ∙ rw known (ap (λ t. typed_terms field t tree) (sym is ∙ json)) in
    json_late field options.part.expand_dots_enabled [] tree why (sym pair ∙ e)

pub is_looked_at : (schema : List Entry) (field : Field) (found : Entry) (type : FieldType) → slice_get schema field.id ≡ Some found → type ≡ found.field_type → is_indexed_type type ≡ true → is_unindexed (slice_get schema field.id) ≡ false
is_looked_at schema field found type at is indexed = ap is_unindexed at ∙ ap (λ t. not (is_indexed_type t)) (sym is) ∙ ap not indexed

-- ---- pairs one after the other

module _ (schema : List Entry) (wanted : Option (Bor (List Field))) where
  looked_at : (pair : ℕ × Tree) (is : Bool) → is_wanted wanted pair.0 ≡ is → is_passed schema wanted pair.0 ≡ false → wanted_pair_terms schema wanted pair ≡ pair_terms schema pair
  looked_at pair true same passed = rw same refl
  looked_at pair false same passed = let e : true ≡ false = sym (passed_none pair.0 same) ∙ passed in absurd (cc)
    where
      passed_none : (number : ℕ) → is_wanted wanted number ≡ false → is_passed schema wanted number ≡ true
      passed_none number unwanted = rw unwanted refl

  abbrev pub Late : Document → Document → Type 0
  Late whole left = (first_terms schema wanted whole ≡ first_terms schema wanted left) ⊎ ((made : List (List ℕ)) × (first_terms schema wanted whole ≡ Ok made))

  pub late_none : (whole left : Document) → whole ≡ left → Late whole left
  late_none whole left is = inl (ap (first_terms schema wanted) is)

  all_made : {V : Type 0} (P : V → V → List (List ℕ) → Type 0) (old new : V) (t : Terms) → TakesAll P old new t → (made : List (List ℕ)) × (t ≡ Ok made)
  all_made P old new (Ok made) h = (made, refl)
  all_made P old new (Err e) h = absurd h

  more_by : (whole rest : Document) (pair : ℕ × Tree) (passed : Bool) → is_passed schema wanted pair.0 ≡ passed → (made : List (List ℕ)) → wanted_pair_terms schema wanted pair ≡ Ok made → Late whole (pair ∷ rest) → Late whole rest
  more_by whole rest pair passed same made is (inr h) = inr h
  more_by whole rest pair true same made is (inl e) = inl (e ∙ rw same refl)
  more_by whole rest pair false same made is (inl e) = inr (made, e ∙ rw same (sym (looked_at pair (is_wanted wanted pair.0) refl same) ∙ is))

  pub late_more : {V : Type 0} (P : V → V → List (List ℕ) → Type 0) (old new : V) (whole left rest : Document) (pair : ℕ × Tree) → left ≡ pair ∷ rest → TakesAll P old new (wanted_pair_terms schema wanted pair) → Late whole left → Late whole rest
  late_more P old new whole left rest pair is h late =
      let m = all_made P old new (wanted_pair_terms schema wanted pair) h in
      more_by whole rest pair (is_passed schema wanted pair.0) refl m.0 m.1 (subst (λ (l : Document). Late whole l) is late)

  not_first : (whole rest : Document) (pair : ℕ × Tree) (why : TermValuesError) → is_passed schema wanted pair.0 ≡ false → (pair_terms schema pair ≡ Err why → ⊥) → Late whole (pair ∷ rest) → first_terms schema wanted whole ≢ Err why
  not_first whole rest pair why passed below (inl e) = λ is. below (sym (e ∙ rw passed refl) ∙ is)
  not_first whole rest pair why passed below (inr h) = λ is. let both : ◌≡◌ {A = Terms} (Ok h.0) (Err why) = sym h.1 ∙ is in absurd (cc)

  late_by : (whole rest : Document) (pair : ℕ × Tree) (why : TermValuesError) → is_passed schema wanted pair.0 ≡ false → (pair_terms schema pair ≡ Err why → IsBelowKeys why) → Late whole (pair ∷ rest) → IsFoundLate schema wanted whole why
  late_by whole rest pair (NulInPath field) passed below late = tt
  late_by whole rest pair (NoJsonTerm field) passed below late = tt
  late_by whole rest pair (UnknownField field) passed below late = not_first whole rest pair (UnknownField field) passed below late
  late_by whole rest pair (WrongType field) passed below late = not_first whole rest pair (WrongType field) passed below late
  late_by whole rest pair Memory passed below late = not_first whole rest pair Memory passed below late

  pub found_late : (whole left rest : Document) (pair : ℕ × Tree) (why : TermValuesError) → left ≡ pair ∷ rest → is_passed schema wanted pair.0 ≡ false → (pair_terms schema pair ≡ Err why → IsBelowKeys why) → Late whole left → IsFoundLate schema wanted whole why
  found_late whole left rest pair why is passed below late = late_by whole rest pair why passed below (subst (λ (l : Document). Late whole l) is late)
