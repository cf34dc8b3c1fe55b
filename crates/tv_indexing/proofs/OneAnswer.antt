-- A text at a path has one answer: two that the definitions allow agree.
use Rattle.std.proofs.Common.{◌≡◌, ◌≢◌, ◌⊎◌, ◌+◌, ℕ, Bool, true, false, List, [], ◌∷◌, ◌++◌, Option, Some, None, Result, Ok, Err, IfSome, refl, sym, subst, ap, ◌∙◌, inl, inr, string_bytes}
use Rattle.std.specs.Fmt.{take_chars}
use Rattle.std.specs.Prelude.{slice_get}
use Rattle.serde_json.specs.Data as json
use Rattle.tv_date.specs.Rfc3339.{rfc}
use Rattle.tv_field.proofs.OneOutcome.{text_outcome}
use Rattle.tv_field.specs.Entry.{Entry, is_indexed_type, value_type}
use Rattle.tv_field.specs.JsonAnswer.{RefusesText, WritesValue, refusal_of}
use Rattle.tv_field.specs.JsonTable.{IsSignedText, IsUnsignedText, Outcome, TableRefusal, TextRow, truth_in}
use Rattle.tv_field.specs.declared.field_type.FieldType.{FieldType}
use Rattle.tv_field.specs.declared.field_type.FieldType.TheVariants as types
use Rattle.tv_field.specs.declared.json_value.JsonRefusal.{JsonRefusal}
use Rattle.tv_field.specs.declared.json_value.JsonRefusal.TheVariants as refusals
use Rattle.tv_format.specs.Tree.{Leaf, leaf, ip_address, text, unsigned, signed, null, boolean, date, facet, bytes, tokenized}
use Rattle.tv_indexing.specs.Agree.{Agree, SaySame}
use Rattle.tv_indexing.specs.DocumentTerms.{Terms, has_zero, plain_terms}
use Rattle.tv_indexing.specs.IndexedField.{AtPathAs, BelowJson, FoundField, IsUnknownPath, JsonOrPlain, Names, RefusesPath, indexed, not_indexed, refused, unknown}
use Rattle.tv_indexing.specs.LeafTerms.{leaf_value}
use Rattle.tv_indexing.specs.TextTerms.{AppendsAnswer, IsWrongText, TermOfText, TermsAnswer, TermsBelow, TermsInField, WritesNumber, WritesTerms, date_written_in, leaves_terms, listed}
use Rattle.tv_indexing.specs.declared.text_terms_error.TextTermsError.{TextTermsError}
use Rattle.tv_indexing.specs.declared.text_terms_error.TextTermsError.TheVariants as errors
use Rattle.tv_options.specs.declared.types.TypeTag.{TypeTag}
use Rattle.tv_schema.specs.Path.{find_or}
use Rattle.std.specs.Str.Parse.{digits_value, signed_digits_value, without_leading_plus}
use Rattle.tv_base.specs.JsonPath.{joined_path}
use Rattle.tv_value.specs.declared.field.Field.{Field}

-- two errors, and two lists of terms
abbrev pub SameTerms : TermsAnswer → TermsAnswer → Type 0
SameTerms one other = Agree SaySame (λ made also. made ≡ also) one other

-- ---- a text as a value of a field

pub leaf_one : (type : FieldType) (s : List ℕ) (l m : Leaf) → WritesValue type s l → WritesValue type s m → l ≡ m
leaf_one type s l m x y = let same : ◌≡◌ {A = Outcome} (Ok (leaf l)) (Ok (leaf m)) = text_outcome type s (Ok (leaf l)) (Ok (leaf m)) x y in cc

-- a refusal that isn't for memory says why
says : (s : List ℕ) (why : JsonRefusal) → why ≢ refusals.Memory → (r : TableRefusal) × (refusal_of (json.string s) why ≡ Some r)
says s (refusals.Overflow expected) some = (_, refl)
says s (refusals.Mismatch expected) some = (_, refl)
says s (refusals.Parse cause) some = (_, refl)
says s refusals.InvalidBase64 some = (_, refl)
says s refusals.FloatNumber some = (_, refl)
says s refusals.Memory some = absurd (some refl)

row_refused : (type : FieldType) (s : List ℕ) (why : JsonRefusal) → RefusesText type s why → why ≢ refusals.Memory → (r : TableRefusal) × (refusal_of (json.string s) why ≡ Some r) × TextRow type s (Err r)
row_refused type s why refuses some =
    let t = says s why some in (t.0, t.1, subst (λ (o : Option TableRefusal). IfSome o (λ r. TextRow type s (Err r))) t.1 refuses)

pub wrong_text_is : (field : Field) (type : TypeTag) (why : JsonRefusal) (s : List ℕ) (e : TextTermsError) → IsWrongText field type why s e
    → (start : _) × (e ≡ errors.WrongText field type why start) × (why ≢ refusals.Memory) × (string_bytes start ≡ take_chars 40 s)
wrong_text_is field type why s (errors.WrongText f t w start) h =
    (start, ap (λ x. errors.WrongText x t w start) h.0 ∙ ap (λ x. errors.WrongText field x w start) h.1 ∙ ap (λ x. errors.WrongText field type x start) h.2, h.3, h.4)
wrong_text_is field type why s (errors.UnknownPath start) h = absurd h
wrong_text_is field type why s (errors.NotIndexed f) h = absurd h
wrong_text_is field type why s (errors.PathEnds f) h = absurd h
wrong_text_is field type why s (errors.NulInPath f) h = absurd h
wrong_text_is field type why s (errors.WrongRange start) h = absurd h
wrong_text_is field type why s (errors.Backwards f) h = absurd h
wrong_text_is field type why s (errors.NoRange f) h = absurd h
wrong_text_is field type why s errors.Memory h = absurd h

-- the text is no value of the field
abbrev pub IsRefused : Field → FieldType → List ℕ → TextTermsError → Type 0
IsRefused field type s e = (why : JsonRefusal) × RefusesText type s why × IsWrongText field (value_type type) why s e

pub refusal_one : (field : Field) (type : FieldType) (s : List ℕ) (e f : TextTermsError) → IsRefused field type s e → IsRefused field type s f → SaySame e f
refusal_one field type s e f x y =
    let a = wrong_text_is field (value_type type) x.0 s e x.2 in
    let b = wrong_text_is field (value_type type) y.0 s f y.2 in
    let r = row_refused type s x.0 x.1 a.2 in
    let q = row_refused type s y.0 y.1 b.2 in
    let same : ◌≡◌ {A = Outcome} (Err r.0) (Err q.0) = text_outcome type s (Err r.0) (Err q.0) r.2 q.2 in
    let one : r.0 ≡ q.0 = cc in
    rw (a.1, b.1) (refl, refl, (s, r.1 ∙ ap Some one ∙ sym q.1), a.3 ∙ sym b.3)

pub no_value : (field : Field) (type : FieldType) (s : List ℕ) (l : Leaf) (e : TextTermsError) → WritesValue type s l → IsRefused field type s e → ⊥
no_value field type s l e writes x =
    let a = wrong_text_is field (value_type type) x.0 s e x.2 in
    let r = row_refused type s x.0 x.1 a.2 in
    let same : ◌≡◌ {A = Outcome} (Ok (leaf l)) (Err r.0) = text_outcome type s (Ok (leaf l)) (Err r.0) writes r.2 in
    absurd (cc)

plain_one : (field : Field) (type : FieldType) (s : List ℕ) (a b : TermsAnswer) → TermOfText field type s a → TermOfText field type s b → SameTerms a b
plain_one field type s (Ok made) (Ok also) x y =
    let same : ◌≡◌ {A = Terms} (Ok made) (Ok also) = sym x.3 ∙ ap (λ l. plain_terms field (value_type type) (leaf_value l)) (leaf_one type s x.0 y.0 x.1 y.1) ∙ y.3 in cc
plain_one field type s (Ok made) (Err f) x y = no_value field type s x.0 f x.1 y
plain_one field type s (Err e) (Ok also) x y = no_value field type s y.0 e y.1 x
plain_one field type s (Err e) (Err f) x y = refusal_one field type s e f x y

-- ---- a path into JSON objects

abbrev BelowCases : {T : Type 0} → (Result T TextTermsError → Type 0) → Field → List ℕ → Result T TextTermsError → Type 0
BelowCases Answers field path a =
    ((a ≡ Err (errors.PathEnds field)) × (path ≡ [])) ⊎ (((a ≡ Err (errors.NulInPath field)) × (has_zero path ≡ true)) ⊎ ((path ≢ []) × (has_zero path ≡ false) × Answers a))

module _ {T : Type 0} (Same : T → T → Type 0) where
  pub below_cases : (Answers : Result T TextTermsError → Type 0) (field : Field) (path : List ℕ) (a : Result T TextTermsError) → BelowJson Answers field path a → BelowCases Answers field path a
  below_cases Answers field path (Ok made) h = inr (inr h)
  below_cases Answers field path (Err (errors.PathEnds f)) h = inl (ap (λ x. Err (errors.PathEnds x)) h.0, h.1)
  below_cases Answers field path (Err (errors.NulInPath f)) h = inr (inl (ap (λ x. Err (errors.NulInPath x)) h.0, h.1))
  below_cases Answers field path (Err (errors.UnknownPath start)) h = inr (inr h)
  below_cases Answers field path (Err (errors.NotIndexed f)) h = inr (inr h)
  below_cases Answers field path (Err (errors.WrongText f t w start)) h = inr (inr h)
  below_cases Answers field path (Err (errors.WrongRange start)) h = inr (inr h)
  below_cases Answers field path (Err (errors.Backwards f)) h = inr (inr h)
  below_cases Answers field path (Err (errors.NoRange f)) h = inr (inr h)
  below_cases Answers field path (Err errors.Memory) h = inr (inr h)

  no_zero : (path : List ℕ) → path ≡ [] → has_zero path ≡ true → ⊥
  no_zero path none has = let e : has_zero [] ≡ true = subst (λ (p : List ℕ). has_zero p ≡ true) none has in absurd (cc)

  cases_one : (Answers : Result T TextTermsError → Type 0) (field : Field) (path : List ℕ) (a b : Result T TextTermsError) → (Answers a → Answers b → Agree SaySame Same a b) → BelowCases Answers field path a → BelowCases Answers field path b
      → Agree SaySame Same a b
  cases_one Answers field path a b same (inl x) (inl y) = rw (x.0, y.0) refl
  cases_one Answers field path a b same (inl x) (inr (inl y)) = absurd (no_zero path x.1 y.1)
  cases_one Answers field path a b same (inl x) (inr (inr y)) = absurd (y.0 x.1)
  cases_one Answers field path a b same (inr (inl x)) (inl y) = absurd (no_zero path y.1 x.1)
  cases_one Answers field path a b same (inr (inl x)) (inr (inl y)) = rw (x.0, y.0) refl
  cases_one Answers field path a b same (inr (inl x)) (inr (inr y)) = let e : true ≡ false = sym x.1 ∙ y.1 in absurd (cc)
  cases_one Answers field path a b same (inr (inr x)) (inl y) = absurd (x.0 y.1)
  cases_one Answers field path a b same (inr (inr x)) (inr (inl y)) = let e : true ≡ false = sym y.1 ∙ x.1 in absurd (cc)
  cases_one Answers field path a b same (inr (inr x)) (inr (inr y)) = same x.2 y.2

  pub below_one : (Answers : Result T TextTermsError → Type 0) (field : Field) (path : List ℕ) (a b : Result T TextTermsError) → (Answers a → Answers b → Agree SaySame Same a b) → BelowJson Answers field path a → BelowJson Answers field path b
      → Agree SaySame Same a b
  below_one Answers field path a b same x y = cases_one Answers field path a b same (below_cases Answers field path a x) (below_cases Answers field path b y)

  -- by the field's type
  pub typed_one : (type : FieldType) (Json : Bool → Result T TextTermsError → Type 0) (Plain : Result T TextTermsError → Type 0) (a b : Result T TextTermsError) → ((d : Bool) → Json d a → Json d b → Agree SaySame Same a b)
      → (Plain a → Plain b → Agree SaySame Same a b) → JsonOrPlain type (λ d. Json d a) (Plain a) → JsonOrPlain type (λ d. Json d b) (Plain b) → Agree SaySame Same a b
  typed_one (types.JsonObject options) Json Plain a b json_one plain_one x y = json_one options.part.expand_dots_enabled x y
  typed_one (types.Str options) Json Plain a b json_one plain_one x y = plain_one x y
  typed_one (types.U64 options) Json Plain a b json_one plain_one x y = plain_one x y
  typed_one (types.I64 options) Json Plain a b json_one plain_one x y = plain_one x y
  typed_one (types.Bool options) Json Plain a b json_one plain_one x y = plain_one x y
  typed_one (types.Date options) Json Plain a b json_one plain_one x y = plain_one x y
  typed_one (types.Facet options) Json Plain a b json_one plain_one x y = plain_one x y
  typed_one (types.Bytes options) Json Plain a b json_one plain_one x y = plain_one x y
  typed_one (types.IpAddr options) Json Plain a b json_one plain_one x y = plain_one x y

abbrev NumberCases : List ℕ → Option Leaf → Type 0
NumberCases s a =
    (IsSignedText s × (a ≡ Some (signed (signed_digits_value 10 s))))
    ⊎ (((¬ IsSignedText s) × IsUnsignedText s × (a ≡ Some (unsigned (digits_value 10 (without_leading_plus s))))) ⊎ ((¬ IsSignedText s) × (¬ IsUnsignedText s) × (a ≡ None)))

number_cases : (s : List ℕ) (a : Option Leaf) → WritesNumber s a → NumberCases s a
number_cases s None h = inr (inr (h.0, h.1, refl))
number_cases s (Some (signed z)) h = inl (h.0, ap (λ x. Some (signed x)) h.1)
number_cases s (Some (unsigned n)) h = inr (inl (h.0, h.1, ap (λ x. Some (unsigned x)) h.2))
number_cases s (Some null) h = absurd h
number_cases s (Some (text t)) h = absurd h
number_cases s (Some (boolean b)) h = absurd h
number_cases s (Some (date z)) h = absurd h
number_cases s (Some (facet f)) h = absurd h
number_cases s (Some (bytes bs)) h = absurd h
number_cases s (Some (ip_address n)) h = absurd h
number_cases s (Some (tokenized t ts)) h = absurd h

number_by : (s : List ℕ) (a b : Option Leaf) → NumberCases s a → NumberCases s b → a ≡ b
number_by s a b (inl x) (inl y) = x.1 ∙ sym y.1
number_by s a b (inl x) (inr (inl y)) = absurd (y.0 x.0)
number_by s a b (inl x) (inr (inr y)) = absurd (y.0 x.0)
number_by s a b (inr (inl x)) (inl y) = absurd (x.0 y.0)
number_by s a b (inr (inl x)) (inr (inl y)) = x.2 ∙ sym y.2
number_by s a b (inr (inl x)) (inr (inr y)) = absurd (y.1 x.1)
number_by s a b (inr (inr x)) (inl y) = absurd (x.0 y.0)
number_by s a b (inr (inr x)) (inr (inl y)) = absurd (x.1 y.1)
number_by s a b (inr (inr x)) (inr (inr y)) = x.2 ∙ sym y.2

pub number_one : (s : List ℕ) (a b : Option Leaf) → WritesNumber s a → WritesNumber s b → a ≡ b
number_one s a b x y = number_by s a b (number_cases s a x) (number_cases s b y)

written_one : (field : Field) (path s : List ℕ) (a b : TermsAnswer) → WritesTerms field path s a → WritesTerms field path s b → SameTerms a b
written_one field path s (Ok made) (Ok also) x y =
    let leaves : x.0 ≡ y.0 = x.1.2 ∙ ap (λ n. text s ∷ (listed n ++ (listed (truth_in s) ++ listed (date_written_in (rfc s))))) (number_one s x.1.0 y.1.0 x.1.1 y.1.1) ∙ sym y.1.2 in
    let same : ◌≡◌ {A = Terms} (Ok made) (Ok also) = sym x.3 ∙ ap (leaves_terms field path) leaves ∙ y.3 in cc
written_one field path s (Ok made) (Err f) x y = absurd y
written_one field path s (Err e) b x y = absurd x

pub terms_one : (at : FoundField) (s : List ℕ) (a b : TermsAnswer) → TermsInField at s a → TermsInField at s b → SameTerms a b
terms_one at s a b x y =
    typed_one (λ made also. made ≡ also) at.type (λ d. TermsBelow at.field d at.rest s) (TermOfText at.field at.type s) a b
    (λ d v w. below_one (λ made also. made ≡ also) (WritesTerms at.field (joined_path d at.rest) s) at.field at.rest a b (written_one at.field (joined_path d at.rest) s a b) v w)
    (plain_one at.field at.type s a b) x y

-- the lists that are left
pub appended_one : (Answers : TermsAnswer → Type 0) (old new also : List (List ℕ)) (a b : Result (Unit {0}) TextTermsError) → ((x y : TermsAnswer) → Answers x → Answers y → SameTerms x y) → AppendsAnswer Answers old new a → AppendsAnswer Answers old also b
    → Agree SaySame (λ done too. new ≡ also) a b
appended_one Answers old new also (Ok x) (Ok y) same v w = v.2 ∙ ap (λ (l : List (List ℕ)). old ++ l) (same (Ok v.0) (Ok w.0) v.1 w.1) ∙ sym w.2
appended_one Answers old new also (Ok x) (Err f) same v w = same (Ok v.0) (Err f) v.1 w
appended_one Answers old new also (Err e) (Ok y) same v w = same (Err e) (Ok w.0) v w.1
appended_one Answers old new also (Err e) (Err f) same v w = same (Err e) (Err f) v w

-- ---- what a path names

pub names_one : (schema : List Entry) (path : List ℕ) (a b : FoundField) → Names schema path a → Names schema path b → a ≡ b
names_one schema path a b x y =
    let found : ◌≡◌ {A = Option (ℕ × List ℕ)} (Some (a.field.id, a.rest)) (Some (b.field.id, b.rest)) = sym x.found ∙ y.found in
    let pair : ◌≡◌ {A = ℕ × List ℕ} (a.field.id, a.rest) (b.field.id, b.rest) = cc in
    let ids : a.field.id ≡ b.field.id = ap (λ (p : ℕ × List ℕ). p.0) pair in
    let rests : a.rest ≡ b.rest = ap (λ (p : ℕ × List ℕ). p.1) pair in
    let entries : ◌≡◌ {A = Option Entry} (Some x.entry) (Some y.entry) = sym x.is_entry ∙ ap (λ n. slice_get schema n) ids ∙ y.is_entry in
    let entry : x.entry ≡ y.entry = cc in
    let typed : a.type ≡ b.type = sym x.has_type ∙ ap (λ (e : Entry). e.field_type) entry ∙ y.has_type in
    λ i. record { field = record { id = ids i }; type = typed i; rest = rests i }

pub unknown_is : (path : List ℕ) (e : TextTermsError) → IsUnknownPath path e → (start : _) × (e ≡ errors.UnknownPath start) × (string_bytes start ≡ take_chars 40 path)
unknown_is path (errors.UnknownPath start) h = (start, refl, h)
unknown_is path (errors.NotIndexed f) h = absurd h
unknown_is path (errors.PathEnds f) h = absurd h
unknown_is path (errors.NulInPath f) h = absurd h
unknown_is path (errors.WrongText f t w start) h = absurd h
unknown_is path (errors.WrongRange start) h = absurd h
unknown_is path (errors.Backwards f) h = absurd h
unknown_is path (errors.NoRange f) h = absurd h
unknown_is path errors.Memory h = absurd h

unknown_one : (path : List ℕ) (e f : TextTermsError) → IsUnknownPath path e → IsUnknownPath path f → SaySame e f
unknown_one path e f x y = let a = unknown_is path e x in let b = unknown_is path f y in rw (a.1, b.1) (a.2 ∙ sym b.2)

pub named_or_none : (schema : List Entry) (path : List ℕ) (at : FoundField) → Names schema path at → find_or schema path None ≡ None → ⊥
named_or_none schema path at names none = let e : ◌≡◌ {A = Option (ℕ × List ℕ)} (Some (at.field.id, at.rest)) None = sym names.found ∙ none in absurd (cc)

path_one : (schema : List Entry) (path : List ℕ) (e f : TextTermsError) → RefusesPath schema path e → RefusesPath schema path f → SaySame e f
path_one schema path e f (unknown none x) (unknown also y) = unknown_one path e f x y
path_one schema path e f (unknown none x) (not_indexed at names is y) = absurd (named_or_none schema path at names none)
path_one schema path e f (not_indexed at names is x) (unknown none y) = absurd (named_or_none schema path at names none)
path_one schema path e f (not_indexed at names is x) (not_indexed found also unindexed y) =
    rw (x, y) (ap (λ (a : FoundField). errors.NotIndexed a.field) (names_one schema path at found names also))

pub path_or_field : (schema : List Entry) (path : List ℕ) (at : FoundField) (e : TextTermsError) → Names schema path at → is_indexed_type at.type ≡ true → RefusesPath schema path e → ⊥
path_or_field schema path at e names is (unknown none x) = named_or_none schema path at names none
path_or_field schema path at e names is (not_indexed found also unindexed x) =
    let same : true ≡ false = sym is ∙ ap (λ (a : FoundField). is_indexed_type a.type) (names_one schema path at found names also) ∙ unindexed in absurd (cc)

-- what there is at a path has one answer, where a field has one
module _ {T E : Type 0} (error : TextTermsError → E) (Say : E → E → Type 0) (Same : T → T → Type 0) (lift : (e f : TextTermsError) → SaySame e f → Say (error e) (error f)) (Answers : FoundField → Result T E → Type 0) where
  pub at_path_one : (schema : List Entry) (path : List ℕ) (a b : Result T E) → ((at : FoundField) → Answers at a → Answers at b → Agree Say Same a b) → AtPathAs error Answers schema path a → AtPathAs error Answers schema path b → Agree Say Same a b
  at_path_one schema path a b one (refused e x is) (refused f y also) = rw (is, also) (lift e f (path_one schema path e f x y))
  at_path_one schema path a b one (refused e x is) (indexed at names has y) = absurd (path_or_field schema path at e names has x)
  at_path_one schema path a b one (indexed at names has x) (refused f y is) = absurd (path_or_field schema path at f names has y)
  at_path_one schema path a b one (indexed at names is x) (indexed found also has y) = one at x (subst (λ (f : FoundField). Answers f b) (names_one schema path found at also names) y)
