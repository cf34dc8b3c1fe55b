-- The range of a field's terms between two texts of a query.
--
-- The words of the public contracts: `AnswersBounds`: what two bounds have at a path in a schema, which are
-- texts. A path that names no field is refused, and so is a field that isn't indexed, and one of JSON
-- objects. Each bound is a value of the field as in `AnswersText`; the range has just the field's terms
-- between the two. Of dates the second of a bound is within, since a term stands for all dates of its second.
-- `BelowInField`: what a text has in a field whose value it is: the range of that value's terms and of those
-- below it, which a facet alone has. `WritesBounds`: the two bounds that one text writes, as `[10 TO 20]`.
use Rattle.std.specs.Prelude.{◌≡◌, ◌≢◌, ◌≤◌, ◌++◌, ◌⊎◌, ℕ, List, [], ◌∷◌, length, codes, bytes_eq}
use Rattle.std.specs.Prelude.{if◌then◌else◌, Bool, true, false, Option, Some, None, Result, Ok, Err}
use Rattle.std.specs.Borrow.{Bor}
use Rattle.std.specs.Ordering.{is_lt, nat_cmp}
use Rattle.std.specs.Range.Bound.{bound_map}
use Rattle.std.specs.Cmp.Lexicographic.{slice_cmp}
use Rattle.std.specs.declared.ops.Bound.{Bound}
use Rattle.std.specs.declared.ops.Bound.TheVariants.{Included, Excluded, Unbounded}
use Rattle.tv_base.specs.Facet.{Descends}
use Rattle.tv_field.specs.Entry.{Entry, value_type}
use Rattle.tv_field.specs.JsonAnswer.{RefusesText, WritesValue}
use Rattle.tv_field.specs.declared.field_type.FieldType.{FieldType}
use Rattle.tv_field.specs.declared.field_type.FieldType.TheVariants as types
use Rattle.tv_field.specs.declared.json_value.JsonRefusal.{JsonRefusal}
use Rattle.tv_format.specs.Tree.{Leaf}
use Rattle.tv_indexing.specs.IndexedField.{AtPath, FoundField, JsonOrPlain}
use Rattle.tv_indexing.specs.LeafTerms.{leaf_value}
use Rattle.tv_indexing.specs.TextTerms.{IsWrongRange, IsWrongText}
use Rattle.tv_indexing.specs.declared.text_terms_error.TextTermsError.{TextTermsError}
use Rattle.tv_indexing.specs.declared.text_terms_error.TextTermsError.TheVariants.{Backwards, NoRange}
use Rattle.tv_term.specs.Key.{IsTerm, TermValue, Facet, value_cmp}
use Rattle.tv_term.specs.Range.{AreTermsOf, HasTerms, IsBetween}
use Rattle.tv_term.specs.declared.range.TermRange.{TermRange}
use Rattle.tv_value.specs.declared.field.Field.{Field}

-- ---- bounds

-- the text is a value of the field, whose term stands for this one
pub record WritesTerm (type : FieldType) (text : List ℕ) (leaf : Leaf) (value : TermValue) : Type 0 where
  pub is_value : WritesValue type text leaf
  pub has_term : leaf_value leaf ≡ Some value

-- a bound that isn't within the range itself; of dates its second is
abbrev pub outer_bound : FieldType → TermValue → Bound TermValue
outer_bound (types.Date options) value = Included value
outer_bound type value = Excluded value

-- the texts of a bound are values of the field, and these their terms' values
abbrev pub WritesBound : FieldType → Bound (List ℕ) → Bound TermValue → Type 0
WritesBound type (Included text) bound = (leaf : Leaf) × (value : TermValue) × WritesTerm type text leaf value
    × (bound ≡ Included value)
WritesBound type (Excluded text) bound = (leaf : Leaf) × (value : TermValue) × WritesTerm type text leaf value
    × (bound ≡ outer_bound type value)
WritesBound type Unbounded bound = bound ≡ Unbounded

-- the text of a bound is refused
abbrev pub RefusesBound : Field → FieldType → Bound (List ℕ) → TextTermsError → Type 0
RefusesBound field type (Included text) error = (why : JsonRefusal) × RefusesText type text why
    × IsWrongText field (value_type type) why text error
RefusesBound field type (Excluded text) error = (why : JsonRefusal) × RefusesText type text why
    × IsWrongText field (value_type type) why text error
RefusesBound field type Unbounded error = ⊥

abbrev pub bounding : {A : Type 0} → Bound A → Option A
bounding (Included value) = Some value
bounding (Excluded value) = Some value
bounding Unbounded = None

-- whether the first value is above the second one, where there are two
abbrev pub are_backwards : Option TermValue → Option TermValue → Bool
are_backwards (Some start) (Some end) = is_lt (value_cmp end start)
are_backwards start end = false

-- the same of their terms' bytes, for private clauses
abbrev pub bytes_run_backwards : Option (List ℕ) → Option (List ℕ) → Bool
bytes_run_backwards (Some start) (Some end) = is_lt (slice_cmp nat_cmp end start)
bytes_run_backwards start end = false

-- ---- what two bounds have

-- both are bounds of values of the field
pub record WriteBoth (type : FieldType) (start end : Bound (List ℕ)) (lo hi : Bound TermValue) : Type 0 where
  pub starts : WritesBound type start lo
  pub ends : WritesBound type end hi

-- why they bound no range: the first is refused, or only the second, or they run backwards
pub data RefusesBoth (field : Field) (type : FieldType) (start end : Bound (List ℕ))
    (error : TextTermsError) : Type 0 where
  first : RefusesBound field type start error → RefusesBoth field type start end error
  second : (lo : Bound TermValue) → WritesBound type start lo → RefusesBound field type end error
      → RefusesBoth field type start end error
  backwards : (lo hi : Bound TermValue) → WriteBoth type start end lo hi
      → are_backwards (bounding lo) (bounding hi) ≡ true → error ≡ Backwards field
      → RefusesBoth field type start end error

abbrev pub RangeAnswer : Type 0
RangeAnswer = Result TermRange TextTermsError

abbrev pub RangeOfTexts : Field → FieldType → Bound (List ℕ) → Bound (List ℕ) → RangeAnswer → Type 0
RangeOfTexts field type start end (Ok range) =
    (lo : Bound TermValue) × (hi : Bound TermValue) × WriteBoth type start end lo hi
    × (are_backwards (bounding lo) (bounding hi) ≡ false)
    × HasTerms (IsBetween field.id (value_type type) lo hi) range
RangeOfTexts field type start end (Err error) = RefusesBoth field type start end error

-- a field of JSON objects has terms of several types
abbrev pub RangeInField : FoundField → Bound (List ℕ) → Bound (List ℕ) → RangeAnswer → Type 0
RangeInField at start end answer = JsonOrPlain at.type (λ expand_dots. answer ≡ Err (NoRange at.field))
    (RangeOfTexts at.field at.type start end answer)

abbrev pub AnswersBounds : List Entry → List ℕ → Bound (List ℕ) → Bound (List ℕ) → RangeAnswer → Type 0
AnswersBounds schema path start end answer = AtPath (λ at. RangeInField at start end) schema path answer

-- ---- a value and those below it

-- a facet with the steps of another one, and at least one more; no other value is below another
abbrev pub IsBelowValue : TermValue → TermValue → Type 0
IsBelowValue (Facet upper) (Facet lower) = Descends upper lower
IsBelowValue upper value = ⊥

-- of this field, the value itself or one below it
abbrev pub IsOrIsBelow : ℕ → TermValue → ℕ → TermValue → Type 0
IsOrIsBelow id upper field value = (field ≡ id) × ((value ≡ upper) ⊎ IsBelowValue upper value)

abbrev pub RangeWithBelow : Field → FieldType → List ℕ → RangeAnswer → Type 0
RangeWithBelow field type text (Ok range) = (leaf : Leaf) × (value : TermValue)
    × WritesTerm type text leaf value
    × HasTerms (IsOrIsBelow field.id value) range
RangeWithBelow field type text (Err error) = RefusesBound field type (Included text) error

abbrev pub BelowInField : FoundField → List ℕ → RangeAnswer → Type 0
BelowInField at text answer = JsonOrPlain at.type (λ expand_dots. answer ≡ Err (NoRange at.field))
    (RangeWithBelow at.field at.type text answer)

-- ---- the bounds that a text writes

abbrev pub opening_bracket : Bool → List ℕ
opening_bracket true = codes "["
opening_bracket false = codes "{"

abbrev pub closing_bracket : Bool → List ℕ
closing_bracket true = codes "]"
closing_bracket false = codes "}"

-- `*` is no bound
abbrev pub bound_of : Bool → List ℕ → Bound (List ℕ)
bound_of is_within text = if bytes_eq text (codes "*") then Unbounded else
    (if is_within then Included text else Excluded text)

abbrev pub IsStartBound : List ℕ → Bound (List ℕ) → Type 0
IsStartBound text start = (is_within : Bool) × (inner : List ℕ) × (text ≡ opening_bracket is_within ++ inner)
    × (start ≡ bound_of is_within inner)

abbrev pub IsEndBound : List ℕ → Bound (List ℕ) → Type 0
IsEndBound text end = (is_within : Bool) × (inner : List ℕ) × (text ≡ inner ++ closing_bracket is_within)
    × (end ≡ bound_of is_within inner)

-- a bound in its bracket, the first ` TO ` of the text, and another bound in its bracket
pub record ArePartedBounds (text : List ℕ) (start end : Bound (List ℕ)) : Type 0 where
  pub before : List ℕ
  pub behind : List ℕ
  pub text_is : text ≡ before ++ (codes " TO " ++ behind)
  pub is_first : (earlier later : List ℕ) → text ≡ earlier ++ (codes " TO " ++ later)
      → length before ≤ length earlier
  pub starts : IsStartBound before start
  pub ends : IsEndBound behind end

-- such a text, or `*`, which has no bounds
pub data WritesBounds (text : List ℕ) (start end : Bound (List ℕ)) : Type 0 where
  no_bounds : text ≡ codes "*" → start ≡ Unbounded → end ≡ Unbounded → WritesBounds text start end
  bounds : ArePartedBounds text start end → WritesBounds text start end

-- what a text has that writes the bounds itself, where this is what two bounds have
pub data InWrittenBounds {T : Type 0} (Answers : Bound (List ℕ) → Bound (List ℕ) → Result T TextTermsError
    → Type 0) (text : List ℕ) (answer : Result T TextTermsError) : Type 0 where
  no_bounds_written : ((start end : Bound (List ℕ)) → ¬ WritesBounds text start end)
      → (error : TextTermsError)
      → IsWrongRange text error → answer ≡ Err error → InWrittenBounds Answers text answer
  bounds_written : (start end : Bound (List ℕ)) → WritesBounds text start end → Answers start end answer
      → InWrittenBounds Answers text answer

abbrev pub AnswersRange : List Entry → List ℕ → List ℕ → RangeAnswer → Type 0
AnswersRange schema path text answer = InWrittenBounds (AnswersBounds schema path) text answer

-- ---- for public clauses

-- the text of a bound
abbrev pub bound_text : Bound (Bor (List ℕ)) → Bound (List ℕ)
bound_text bound = bound_map (λ text. text.now) bound

-- ---- for private clauses

-- the term of the value that a text is, or why it is none
abbrev pub IsTermOfText : Field → FieldType → List ℕ → Result (List ℕ) TextTermsError → Type 0
IsTermOfText field type text (Ok made) = (leaf : Leaf) × (value : TermValue) × WritesTerm type text leaf value
    × IsTerm made field.id value
IsTermOfText field type text (Err error) = RefusesBound field type (Included text) error

-- the same of a bound
abbrev pub AreTermsOfBound : Field → FieldType → Bound (List ℕ) → Result (Bound (List ℕ)) TextTermsError
    → Type 0
AreTermsOfBound field type bound (Ok made) = (value : Bound TermValue) × WritesBound type bound value
    × AreTermsOf field.id value made
AreTermsOfBound field type bound (Err error) = RefusesBound field type bound error

-- where the terms of a value and of those below it end, among those that begin with its term
abbrev pub EndsBelowTerm : FieldType → List ℕ → Bound (List ℕ) → Type 0
EndsBelowTerm (types.Facet options) start end = ((length start ≡ 5) × (end ≡ Unbounded))
    ⊎ ((length start ≢ 5) × (end ≡ Excluded (start ++ 1 ∷ [])))
EndsBelowTerm type start end = end ≡ Included start
