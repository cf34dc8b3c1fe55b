-- Of which values the terms of a text are.
use Rattle.std.proofs.Common.{◌≡◌, ◌<◌, ℕ, zero, suc, inl, inr, Bool, true, false, List, [], ◌∷◌, ◌++◌, Option, None, Some, IfSome, Ok, Err, arith, refl, ap, subst}
use Rattle.std.specs.Prelude.{◌⊎◌, ◌==◌, if◌then◌else◌, slice_index_or}
use Rattle.std.proofs.lemmas.List.Elements.{Contains-append_cases, Contains-append_left, Contains-append_right}
use Rattle.std.specs.List.{AllByRecursion, Contains}
use Rattle.tv_date.specs.DateTime.{truncated}
use Rattle.tv_date.specs.declared.date_time.DateTimePrecision.TheVariants.{Seconds}
use Rattle.tv_format.specs.Tree.{Leaf, null, text, unsigned, signed, boolean, date, facet, bytes, ip_address, tokenized}
use Rattle.tv_indexing.specs.DocumentTerms.{Terms, followed_by, json_leaf_terms, plain_terms}
use Rattle.tv_indexing.specs.LeafTerms.{json_value}
use Rattle.tv_indexing.specs.TextTerms.{leaves_terms}
use Rattle.tv_indexing.specs.declared.document.TermValuesError.TheVariants.{WrongType}
use Rattle.tv_options.specs.Types.{code}
use Rattle.tv_options.specs.declared.types.TypeTag.{TypeTag}
use Rattle.tv_term.specs.Key.{Date, Fits, HasNoZero, Json, Signed, TermValue, Text, Truth, json_number, term, value_code}
use Rattle.tv_value.specs.declared.field.Field.{Field}

-- terms of one field are equal only where their values are
abbrev pub AreOfOneValue : ℕ → Type 0
AreOfOneValue field = (a b : TermValue) → Fits a → Fits b → term field a ≡ term field b → a ≡ b

-- the only one there is
only_one : (t s : List ℕ) → Contains (t ∷ []) s → t ≡ s
only_one t s has = at_place has.0 has.1 has.2
  where
    at_place : (k : ℕ) → k < 1 → slice_index_or (t ∷ []) k s ≡ s → t ≡ s
    at_place zero within same = same
    at_place (suc k) within same = absurd (omega (arith, within))

-- ---- a field that isn't of JSON objects

same_if : (field : Field) (value : TermValue) (is_one : Bool) (made : List (List ℕ)) (s : List ℕ) → ((if is_one then Ok (term field.id value ∷ []) else Err (WrongType field)) ≡ Ok made) → Contains made s → term field.id value ≡ s
same_if field value true made s e has =
    let is_made : made ≡ term field.id value ∷ [] = cc in
    only_one (term field.id value) s (subst (λ m. Contains m s) is_made has)
same_if field value false made s e has = cc

pub plain_value : (field : Field) (type : TypeTag) (v : Option TermValue) (made : List (List ℕ)) (value : TermValue) → AreOfOneValue field.id → IfSome v Fits → Fits value → plain_terms field type v ≡ Ok made → Contains made (term field.id value) → v ≡ Some value
plain_value field type None made value one v_fits fits e has = cc
plain_value field type (Some v) made value one v_fits fits e has = ap Some (one v value v_fits fits (same_if field v (value_code v == code type) made (term field.id value) e has))

-- ---- a path into JSON objects

nothing : (made : List (List ℕ)) → ◌≡◌ {A = Terms} (Ok []) (Ok made) → made ≡ []
nothing made e = cc

none_in : (s : List ℕ) → Contains [] s → ⊥
none_in s has = omega (arith, has.1)

-- the one term there
one_there : (field : Field) (path : List ℕ) (a : TermValue) (made : List (List ℕ)) (value : TermValue) → AreOfOneValue field.id → HasNoZero path → Fits a → Fits value → ◌≡◌ {A = Terms} (Ok (term field.id (Json path a) ∷ [])) (Ok made) → Contains made (term field.id (Json path value)) → Some a ≡ Some value
one_there field path a made value one plain a_fits fits e has =
    let s = term field.id (Json path value) in
    let is_made : made ≡ term field.id (Json path a) ∷ [] = cc in
    let same : Json path a ≡ Json path value = one (Json path a) (Json path value) (plain, a_fits) (plain, fits) (only_one (term field.id (Json path a)) s (subst (λ m. Contains m s) is_made has)) in
    cc

-- that of a leaf
leaf_is : (field : Field) (path : List ℕ) (l : Leaf) (made : List (List ℕ)) (value : TermValue) → AreOfOneValue field.id → HasNoZero path → IfSome (json_value l) Fits → Fits value → json_leaf_terms field path l ≡ Ok made → Contains made (term field.id (Json path value)) → json_value l ≡ Some value
leaf_is field path null made value one plain a fits e has = absurd (none_in (term field.id (Json path value)) (subst (λ m. Contains m (term field.id (Json path value))) (nothing made e) has))
leaf_is field path (text t) made value one plain a fits e has = one_there field path (Text t) made value one plain a fits e has
leaf_is field path (unsigned n) made value one plain a fits e has = one_there field path (json_number n) made value one plain a fits e has
leaf_is field path (signed z) made value one plain a fits e has = one_there field path (Signed z) made value one plain a fits e has
leaf_is field path (boolean b) made value one plain a fits e has = one_there field path (Truth b) made value one plain a fits e has
leaf_is field path (date z) made value one plain a fits e has = one_there field path (Date (truncated Seconds z)) made value one plain a fits e has
leaf_is field path (facet f) made value one plain a fits e has = cc
leaf_is field path (bytes bs) made value one plain a fits e has = cc
leaf_is field path (ip_address n) made value one plain a fits e has = cc
leaf_is field path (tokenized t ts) made value one plain a fits e has = cc

both : (s t : Terms) (made : List (List ℕ)) → followed_by s t ≡ Ok made → (a : List (List ℕ)) × (b : List (List ℕ)) × (s ≡ Ok a) × (t ≡ Ok b) × (made ≡ a ++ b)
both (Ok a) (Ok b) made e = (a, b, refl, refl, cc)
both (Ok a) (Err f) made e = cc
both (Err f) t made e = cc

first_or_later : (field : Field) (path : List ℕ) (l : Leaf) (ls : List Leaf) (a b : List (List ℕ)) (value : TermValue) → AreOfOneValue field.id → HasNoZero path → IfSome (json_value l) Fits → Fits value → json_leaf_terms field path l ≡ Ok a
    → (Contains b (term field.id (Json path value)) → (m : Leaf) × Contains ls m × (json_value m ≡ Some value)) → Contains a (term field.id (Json path value)) ⊎ Contains b (term field.id (Json path value)) → (m : Leaf) × Contains (l ∷ ls) m × (json_value m ≡ Some value)
first_or_later field path l ls a b value one plain fit fits e later (inl has) = (l, Contains-append_left (l ∷ []) ls l (zero, omega arith, refl), leaf_is field path l a value one plain fit fits e has)
first_or_later field path l ls a b value one plain fit fits e later (inr has) =
    let found = later has in (found.0, Contains-append_right (l ∷ []) ls found.0 found.1, found.2)

pub path_value : (field : Field) (path : List ℕ) (ls : List Leaf) (made : List (List ℕ)) (value : TermValue) → AreOfOneValue field.id → HasNoZero path → AllByRecursion (λ l. IfSome (json_value l) Fits) ls → Fits value → leaves_terms field path ls ≡ Ok made → Contains made (term field.id (Json path value))
    → (l : Leaf) × Contains ls l × (json_value l ≡ Some value)
path_value field path [] made value one plain fit fits e has = absurd (none_in (term field.id (Json path value)) (subst (λ m. Contains m (term field.id (Json path value))) (nothing made e) has))
path_value field path (l ∷ ls) made value one plain fit fits e has =
    let parts = both (json_leaf_terms field path l) (leaves_terms field path ls) made e in
    let s = term field.id (Json path value) in
    first_or_later field path l ls parts.0 parts.1 value one plain fit.0 fits parts.2 (λ later. path_value field path ls parts.1 value one plain fit.1 fits parts.3 later) (Contains-append_cases parts.0 parts.1 s (subst (λ m. Contains m s) parts.4 has))
