-- The ranges of terms between two texts of a query, at a path into JSON objects.
--
-- The word of the public contract, `AnswersRanges`: what a text has at a path of a schema. In a field that
-- isn't of JSON objects it is the one range of `AnswersRange`. At a path into JSON objects it is a range of
-- each kind of value that both bounds write: of dates, of numbers that fit signed ones of 64 bits, of truth
-- values, of texts, which each text writes, and of numbers from 2^63 on. A number that is a bound of the one
-- kind bounds no number of the other: it is above all of these, or below.
use Rattle.std.specs.Prelude.{◌≡◌, ◌++◌, ℕ, List, [], ◌∷◌, Bool, true, false, Option, Some, None, Result, Ok}
use Rattle.std.specs.Prelude.{Err}
use Rattle.std.specs.Global.{Vec}
use Rattle.std.specs.Option.{option_map}
use Rattle.std.specs.declared.ops.Bound.{Bound}
use Rattle.std.specs.declared.ops.Bound.TheVariants.{Included, Excluded, Unbounded}
use Rattle.tv_base.specs.JsonPath.{joined_path}
use Rattle.tv_date.specs.Rfc3339.{rfc}
use Rattle.tv_field.specs.Entry.{Entry}
use Rattle.tv_field.specs.JsonTable.{truth_in}
use Rattle.tv_field.specs.declared.field_type.FieldType.{FieldType}
use Rattle.tv_format.specs.Tree.{Leaf, text, unsigned, signed}
use Rattle.tv_indexing.specs.IndexedField.{AtPath, BelowJson, FoundField, JsonOrPlain}
use Rattle.tv_indexing.specs.JsonBounds.{RunBackwards}
use Rattle.tv_indexing.specs.LeafTerms.{leaf_value}
use Rattle.tv_indexing.specs.TextRange.{InWrittenBounds, RangeOfTexts, bounding}
use Rattle.tv_indexing.specs.TextTerms.{WritesNumber, date_written_in}
use Rattle.tv_indexing.specs.declared.json_ranges.JsonKind.{JsonKind}
use Rattle.tv_indexing.specs.declared.json_ranges.JsonKind.TheVariants as kinds
use Rattle.tv_indexing.specs.declared.text_terms_error.TextTermsError.{TextTermsError}
use Rattle.tv_indexing.specs.declared.text_terms_error.TextTermsError.TheVariants.{Backwards}
use Rattle.tv_options.specs.declared.types.TypeTag.{TypeTag}
use Rattle.tv_options.specs.declared.types.TypeTag.TheVariants as tag
use Rattle.tv_term.specs.Key.{TermValue, Json, IsTerm, tag_of}
use Rattle.tv_term.specs.Range.{HasTerms, IsFromBound, IsToBound}
use Rattle.tv_term.specs.declared.range.TermRange.{TermRange}
use Rattle.tv_value.specs.declared.field.Field.{Field}

-- ---- the bounds of each kind

abbrev pub type_of_kind : JsonKind → TypeTag
type_of_kind kinds.Date = tag.Date
type_of_kind kinds.Signed = tag.I64
type_of_kind kinds.Truth = tag.Bool
type_of_kind kinds.Text = tag.Str
type_of_kind kinds.Unsigned = tag.U64

-- within the range itself, or not
abbrev pub placed_bound : Bool → Leaf → Bound Leaf
placed_bound true leaf = Included leaf
placed_bound false leaf = Excluded leaf

-- a number of 64 bits without a sign is above all with one, and no start of these
abbrev pub signed_start : Bool → Option Leaf → Option (Bound Leaf)
signed_start is_within (Some (signed number)) = Some (placed_bound is_within (signed number))
signed_start is_within number = None

abbrev pub unsigned_start : Bool → Option Leaf → Option (Bound Leaf)
unsigned_start is_within (Some (unsigned number)) = Some (placed_bound is_within (unsigned number))
unsigned_start is_within (Some (signed number)) = Some Unbounded
unsigned_start is_within number = None

abbrev pub signed_end : Bool → Option Leaf → Option (Bound Leaf)
signed_end is_within (Some (signed number)) = Some (placed_bound is_within (signed number))
signed_end is_within (Some (unsigned number)) = Some Unbounded
signed_end is_within number = None

abbrev pub unsigned_end : Bool → Option Leaf → Option (Bound Leaf)
unsigned_end is_within (Some (unsigned number)) = Some (placed_bound is_within (unsigned number))
unsigned_end is_within number = None

-- what a text writes of each kind; of a date the second is within
abbrev pub WritesEnd : (Bool → Option Leaf → Option (Bound Leaf)) → (Bool → Option Leaf → Option (Bound Leaf))
    → JsonKind → Bool → List ℕ → Option (Bound Leaf) → Type 0
WritesEnd of_signed of_unsigned kinds.Date is_within written bound =
    bound ≡ option_map Included (date_written_in (rfc written))
WritesEnd of_signed of_unsigned kinds.Signed is_within written bound =
    (number : Option Leaf) × WritesNumber written number × (bound ≡ of_signed is_within number)
WritesEnd of_signed of_unsigned kinds.Truth is_within written bound =
    bound ≡ option_map (placed_bound is_within) (truth_in written)
WritesEnd of_signed of_unsigned kinds.Text is_within written bound =
    bound ≡ Some (placed_bound is_within (text written))
WritesEnd of_signed of_unsigned kinds.Unsigned is_within written bound =
    (number : Option Leaf) × WritesNumber written number × (bound ≡ of_unsigned is_within number)

abbrev pub StartsIn : JsonKind → Bound (List ℕ) → Option (Bound Leaf) → Type 0
StartsIn kind (Included written) bound = WritesEnd signed_start unsigned_start kind true written bound
StartsIn kind (Excluded written) bound = WritesEnd signed_start unsigned_start kind false written bound
StartsIn kind Unbounded bound = bound ≡ Some Unbounded

abbrev pub EndsIn : JsonKind → Bound (List ℕ) → Option (Bound Leaf) → Type 0
EndsIn kind (Included written) bound = WritesEnd signed_end unsigned_end kind true written bound
EndsIn kind (Excluded written) bound = WritesEnd signed_end unsigned_end kind false written bound
EndsIn kind Unbounded bound = bound ≡ Some Unbounded

-- ---- the terms of each kind

-- of this field, at this joined path, of this type
abbrev pub IsTypedAt : ℕ → List ℕ → TypeTag → ℕ → TermValue → Type 0
IsTypedAt id path type field value = (field ≡ id) × (inner : TermValue) × (value ≡ Json path inner)
    × (tag_of inner ≡ type)

-- and within two bounds
abbrev pub IsBetweenAt : ℕ → List ℕ → TypeTag → Bound TermValue → Bound TermValue → ℕ → TermValue → Type 0
IsBetweenAt id path type lo hi field value =
    (field ≡ id) × (inner : TermValue) × (value ≡ Json path inner) × (tag_of inner ≡ type)
    × IsFromBound lo inner × IsToBound hi inner

-- the value of the term of a leaf that is a bound
abbrev pub AreBoundValues : Bound Leaf → Bound TermValue → Type 0
AreBoundValues (Included leaf) (Included value) = leaf_value leaf ≡ Some value
AreBoundValues (Excluded leaf) (Excluded value) = leaf_value leaf ≡ Some value
AreBoundValues Unbounded Unbounded = Unit {0}
AreBoundValues leaf value = ⊥

-- the range of a kind, where both bounds are of it
abbrev pub AreRangesOf : Field → List ℕ → JsonKind → Option (Bound Leaf) → Option (Bound Leaf)
    → List TermRange → Type 0
AreRangesOf field path kind (Some start) (Some end) ranges =
    (lo : Bound TermValue) × (hi : Bound TermValue) × AreBoundValues start lo × AreBoundValues end hi
    × (range : TermRange) × (ranges ≡ range ∷ [])
    × HasTerms (IsBetweenAt field.id path (type_of_kind kind) lo hi) range
AreRangesOf field path kind start end ranges = ranges ≡ []

abbrev pub AreOfKind : Field → List ℕ → Bound (List ℕ) → Bound (List ℕ) → JsonKind → List TermRange → Type 0
AreOfKind field path start end kind ranges = (first : Option (Bound Leaf)) × (last : Option (Bound Leaf))
    × StartsIn kind start first × EndsIn kind end last × AreRangesOf field path kind first last ranges

-- those of all kinds, in the order of terms
pub record AreOfAllKinds (field : Field) (path : List ℕ) (start end : Bound (List ℕ))
    (ranges : List TermRange) : Type 0 where
  pub dates : List TermRange
  pub signed : List TermRange
  pub truths : List TermRange
  pub texts : List TermRange
  pub unsigned : List TermRange
  pub are_dates : AreOfKind field path start end kinds.Date dates
  pub are_signed : AreOfKind field path start end kinds.Signed signed
  pub are_truths : AreOfKind field path start end kinds.Truth truths
  pub are_texts : AreOfKind field path start end kinds.Text texts
  pub are_unsigned : AreOfKind field path start end kinds.Unsigned unsigned
  pub all : ranges ≡ dates ++ (signed ++ (truths ++ (texts ++ unsigned)))

-- ---- what a text has

abbrev pub RangesAnswer : Type 0
RangesAnswer = Result (List TermRange) TextTermsError

-- those at a joined path, unless the bounds run backwards
abbrev pub RangesAt : Field → List ℕ → Bound (List ℕ) → Bound (List ℕ) → RangesAnswer → Type 0
RangesAt field path start end (Ok ranges) = RunBackwards (bounding start) (bounding end) false
    × AreOfAllKinds field path start end ranges
RangesAt field path start end (Err error) = RunBackwards (bounding start) (bounding end) true
    × (error ≡ Backwards field)

abbrev pub RangesBelow : Field → Bool → List ℕ → Bound (List ℕ) → Bound (List ℕ) → RangesAnswer → Type 0
RangesBelow field expand_dots path start end answer =
    BelowJson (RangesAt field (joined_path expand_dots path) start end) field path answer

-- the one range of a field that isn't of JSON objects
abbrev pub OneRange : Field → FieldType → Bound (List ℕ) → Bound (List ℕ) → RangesAnswer → Type 0
OneRange field type start end (Ok ranges) = (range : TermRange) × (ranges ≡ range ∷ [])
    × RangeOfTexts field type start end (Ok range)
OneRange field type start end (Err error) = RangeOfTexts field type start end (Err error)

abbrev pub RangesInField : FoundField → Bound (List ℕ) → Bound (List ℕ) → RangesAnswer → Type 0
RangesInField at start end answer = JsonOrPlain at.type
    (λ expand_dots. RangesBelow at.field expand_dots at.rest start end answer)
    (OneRange at.field at.type start end answer)

abbrev pub AnswersBetween : List Entry → List ℕ → Bound (List ℕ) → Bound (List ℕ) → RangesAnswer → Type 0
AnswersBetween schema path start end answer = AtPath (λ at. RangesInField at start end) schema path answer

-- what a text has that writes the bounds itself
abbrev pub RangesOfText : FoundField → List ℕ → RangesAnswer → Type 0
RangesOfText at written answer = InWrittenBounds (RangesInField at) written answer

abbrev pub AnswersRanges : List Entry → List ℕ → List ℕ → RangesAnswer → Type 0
AnswersRanges schema path written answer = InWrittenBounds (AnswersBetween schema path) written answer

-- ---- for public clauses

-- the ranges of a list
abbrev pub ranges_in : Result (Vec TermRange) TextTermsError → RangesAnswer
ranges_in (Ok ranges) = Ok ranges.items
ranges_in (Err error) = Err error

-- ---- for private clauses

-- the terms at a path of the values of a bound
abbrev pub AreTermsAt : ℕ → List ℕ → Bound TermValue → Bound (List ℕ) → Type 0
AreTermsAt id path (Included value) (Included bytes) = IsTerm bytes id (Json path value)
AreTermsAt id path (Excluded value) (Excluded bytes) = IsTerm bytes id (Json path value)
AreTermsAt id path Unbounded Unbounded = Unit {0}
AreTermsAt id path value bytes = ⊥
