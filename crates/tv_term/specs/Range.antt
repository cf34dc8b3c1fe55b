-- Ranges of byte strings by their order, and which terms are in one.
use Rattle.std.specs.Prelude.{ℕ, ◌↔◌, ◌≡◌, ◌≢◌, List, Option, Some, None, IsTrue}
use Rattle.std.specs.Ordering.{is_le, is_lt, nat_cmp}
use Rattle.std.specs.Cmp.Lexicographic.{slice_cmp}
use Rattle.std.specs.Global.{Vec}
use Rattle.std.specs.declared.ops.Bound.{Bound}
use Rattle.std.specs.declared.ops.Bound.TheVariants.{Included, Excluded, Unbounded}
use Rattle.tv_base.specs.Facet.{Descends}
use Rattle.tv_base.specs.Sink.{IsPrefix}
use Rattle.tv_base.specs.Source.{AllBytes}
use Rattle.tv_options.specs.declared.types.TypeTag.{TypeTag}
use Rattle.tv_term.specs.Key.{TermValue, Text, Facet, Json, IsTerm, tag_of, payload, value_cmp}
use Rattle.tv_term.specs.declared.range.TermRange.{TermRange}

-- the bytes are those of the start, or above them
abbrev pub IsFrom : List ℕ → List ℕ → Type 0
IsFrom start bytes = IsTrue (is_le (slice_cmp nat_cmp start bytes))

-- the bytes are below the end, where there is one
abbrev pub IsBelow : Option (Vec ℕ) → List ℕ → Type 0
IsBelow None bytes = Unit {0}
IsBelow (Some end) bytes = IsTrue (is_lt (slice_cmp nat_cmp bytes end.items))

abbrev pub IsInRange : List ℕ → Option (Vec ℕ) → List ℕ → Type 0
IsInRange start end bytes = IsFrom start bytes × IsBelow end bytes

-- of all byte strings just those that begin with these are not below them and below the end
abbrev pub EndsPrefix : List ℕ → Option (Vec ℕ) → Type 0
EndsPrefix prefix end = (bytes : List ℕ) → AllBytes bytes → IsInRange prefix end bytes ↔ IsPrefix prefix bytes

abbrev pub IsIn : TermRange → List ℕ → Type 0
IsIn range bytes = IsInRange range.start.items range.end bytes

-- of all byte strings just those that begin with these are in the range
abbrev pub HasPrefixed : List ℕ → TermRange → Type 0
HasPrefixed prefix range = (bytes : List ℕ) → AllBytes bytes → IsIn range bytes ↔ IsPrefix prefix bytes

-- of all byte strings just those that begin with these and are longer are in the range
abbrev pub HasLonger : List ℕ → TermRange → Type 0
HasLonger prefix range = (bytes : List ℕ) → AllBytes bytes → IsIn range bytes
    ↔ (IsPrefix prefix bytes × (bytes ≢ prefix))

-- of all terms just those of such a field and value are in the range
abbrev pub HasTerms : (ℕ → TermValue → Type 0) → TermRange → Type 0
HasTerms P range = (bytes : List ℕ) (field : ℕ) (value : TermValue) → AllBytes bytes
    → IsTerm bytes field value → IsIn range bytes ↔ P field value

-- ---- which terms

-- a term of this field
abbrev pub IsOfField : ℕ → ℕ → TermValue → Type 0
IsOfField id field value = field ≡ id

-- of this field, whose value is of this type
abbrev pub IsOfType : ℕ → TypeTag → ℕ → TermValue → Type 0
IsOfType id type_tag field value = (field ≡ id) × (tag_of value ≡ type_tag)

-- the same, and the value's payload begins with these bytes
abbrev pub HasPayloadPrefix : ℕ → TypeTag → List ℕ → ℕ → TermValue → Type 0
HasPayloadPrefix id type_tag prefix field value = (field ≡ id) × (tag_of value ≡ type_tag)
    × IsPrefix prefix (payload value)

-- of this field, whose value is a text that begins with this one
abbrev pub HasTextPrefix : ℕ → List ℕ → ℕ → TermValue → Type 0
HasTextPrefix id prefix field value = (field ≡ id) × (text : List ℕ) × (value ≡ Text text)
    × IsPrefix prefix text

-- of this field, whose value stands at this joined path
abbrev pub IsAtPath : ℕ → List ℕ → ℕ → TermValue → Type 0
IsAtPath id path field value = (field ≡ id) × (inner : TermValue) × (value ≡ Json path inner)

-- of this field, whose value is a facet below this one
abbrev pub IsBelowFacet : ℕ → List ℕ → ℕ → TermValue → Type 0
IsBelowFacet id upper field value = (field ≡ id) × (lower : List ℕ) × (value ≡ Facet lower)
    × Descends upper lower

-- a value from the bound on
abbrev pub IsFromBound : Bound TermValue → TermValue → Type 0
IsFromBound (Included least) value = IsTrue (is_le (value_cmp least value))
IsFromBound (Excluded below) value = IsTrue (is_lt (value_cmp below value))
IsFromBound Unbounded value = Unit {0}

-- a value up to the bound
abbrev pub IsToBound : Bound TermValue → TermValue → Type 0
IsToBound (Included most) value = IsTrue (is_le (value_cmp value most))
IsToBound (Excluded above) value = IsTrue (is_lt (value_cmp value above))
IsToBound Unbounded value = Unit {0}

-- of this field, whose value is of this type and within both bounds
abbrev pub IsBetween : ℕ → TypeTag → Bound TermValue → Bound TermValue → ℕ → TermValue → Type 0
IsBetween id type_tag start end field value = (field ≡ id) × (tag_of value ≡ type_tag)
    × IsFromBound start value × IsToBound end value

-- the terms of the values of a bound
abbrev pub AreTermsOf : ℕ → Bound TermValue → Bound (List ℕ) → Type 0
AreTermsOf id (Included value) (Included bytes) = IsTerm bytes id value
AreTermsOf id (Excluded value) (Excluded bytes) = IsTerm bytes id value
AreTermsOf id Unbounded Unbounded = Unit {0}
AreTermsOf id value bytes = ⊥

-- ---- what is left of a range

-- bytes from a bound on
abbrev pub IsFromBytes : Bound (List ℕ) → List ℕ → Type 0
IsFromBytes (Included least) bytes = IsTrue (is_le (slice_cmp nat_cmp least bytes))
IsFromBytes (Excluded below) bytes = IsTrue (is_lt (slice_cmp nat_cmp below bytes))
IsFromBytes Unbounded bytes = Unit {0}

-- bytes up to a bound
abbrev pub IsToBytes : Bound (List ℕ) → List ℕ → Type 0
IsToBytes (Included most) bytes = IsTrue (is_le (slice_cmp nat_cmp bytes most))
IsToBytes (Excluded above) bytes = IsTrue (is_lt (slice_cmp nat_cmp bytes above))
IsToBytes Unbounded bytes = Unit {0}

-- just the byte strings that are in a range and within both bounds
abbrev pub LeavesBetween : TermRange → Bound (List ℕ) → Bound (List ℕ) → TermRange → Type 0
LeavesBetween all start end left = (bytes : List ℕ) → IsIn left bytes
    ↔ (IsIn all bytes × IsFromBytes start bytes × IsToBytes end bytes)

-- those from a bound on, and those up to one
abbrev pub LeavesFrom : TermRange → Bound (List ℕ) → TermRange → Type 0
LeavesFrom all start left = (bytes : List ℕ) → IsIn left bytes ↔ (IsIn all bytes × IsFromBytes start bytes)

abbrev pub LeavesTo : TermRange → Bound (List ℕ) → TermRange → Type 0
LeavesTo all end left = (bytes : List ℕ) → IsIn left bytes ↔ (IsIn all bytes × IsToBytes end bytes)
