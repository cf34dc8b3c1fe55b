-- The terms that a clause of a query wants.
--
-- The words of the public contract: `AnswersClause`: what a clause has at its path, in the order of the
-- reasons. A path that names no field is refused, and so is a field that isn't indexed. In the field, a text
-- wants its terms, as `TermsInField` says; in a field of facets also those of the facets below, since tantivy
-- indexes with a facet those above it. A prefix wants the terms that begin with the first term of its text,
-- in a field of texts, facets or JSON objects. A range wants the terms in its ranges, as `RangesOfText` says.
-- `Selects`, `RefusesClause`: the terms that it wants, or why it wants none. `IsWanted`: the term is one of
-- these.
use Rattle.std.specs.Prelude.{◌≡◌, ◌⊎◌, ℕ, List, [], ◌∷◌, Bool, true, false, MatchBool, Result, Ok, Err}
use Rattle.std.specs.List.{Any, Contains}
use Rattle.tv_field.specs.Entry.{Entry}
use Rattle.tv_field.specs.declared.field_type.FieldType.{FieldType}
use Rattle.tv_field.specs.declared.field_type.FieldType.TheVariants as types
use Rattle.tv_indexing.specs.IndexedField.{AtPathAs, FoundField}
use Rattle.tv_indexing.specs.JsonRanges.{RangesOfText}
use Rattle.tv_indexing.specs.TakesMemory.{TakesMemory as RefusalTakesMemory, TakesMemoryIn}
use Rattle.tv_indexing.specs.TextRange.{BelowInField}
use Rattle.tv_indexing.specs.TextTerms.{TermsInField}
use Rattle.tv_indexing.specs.declared.text_terms_error.TextTermsError.{TextTermsError}
use Rattle.tv_indexing.specs.declared.text_terms_error.TextTermsError.TheVariants as texts
use Rattle.tv_query.specs.Tokens.{WantedText, of_text, of_prefix, of_range}
use Rattle.tv_query.specs.declared.query_error.QueryReason.{QueryReason}
use Rattle.tv_query.specs.declared.query_error.QueryReason.TheVariants.{Clause, Memory, NoPrefix}
use Rattle.tv_query.specs.declared.selection.Selection.{Selection}
use Rattle.tv_term.specs.Range.{HasPrefixed, IsIn}
use Rattle.tv_term.specs.declared.range.TermRange.{TermRange}

abbrev pub is_of_facets : FieldType → Bool
is_of_facets (types.Facet options) = true
is_of_facets type = false

-- a field of texts, facets or JSON objects
abbrev pub has_prefixes : FieldType → Bool
has_prefixes (types.Str options) = true
has_prefixes (types.Facet options) = true
has_prefixes (types.JsonObject options) = true
has_prefixes type = false

-- ---- what a clause has in the field that its path names

-- the terms that begin with the first of these
abbrev pub AreOfFirst : List (List ℕ) → List TermRange → Type 0
AreOfFirst [] ranges = ranges ≡ []
AreOfFirst (first ∷ terms) ranges = (range : TermRange) × (ranges ≡ range ∷ []) × HasPrefixed first range

-- in a field of facets a text has one range, of its term and those of the facets below
abbrev pub WantsInField : FoundField → WantedText → Selection → Type 0
WantsInField at (of_text text) selection =
    MatchBool (is_of_facets at.type) ((selection.exact ≡ []) × (range : TermRange)
    × (selection.ranges.items ≡ range ∷ []) × BelowInField at text (Ok range))
    (TermsInField at text (Ok selection.exact) × (selection.ranges.items ≡ []))
WantsInField at (of_prefix text) selection =
    (has_prefixes at.type ≡ true) × (selection.exact ≡ []) × (terms : List (List ℕ))
    × TermsInField at text (Ok terms) × AreOfFirst terms selection.ranges.items
WantsInField at (of_range text) selection = (selection.exact ≡ [])
    × RangesOfText at text (Ok selection.ranges.items)

abbrev pub RefusesInField : FoundField → WantedText → QueryReason → Type 0
RefusesInField at (of_text text) (Clause error) = TermsInField at text (Err error)
RefusesInField at (of_prefix text) (Clause error) = (has_prefixes at.type ≡ true)
    × TermsInField at text (Err error)
RefusesInField at (of_prefix text) NoPrefix = has_prefixes at.type ≡ false
RefusesInField at (of_range text) (Clause error) = RangesOfText at text (Err error)
RefusesInField at wanted reason = ⊥

-- the selection is of the field
abbrev pub AnswersInField : FoundField → WantedText → Result Selection QueryReason → Type 0
AnswersInField at wanted (Ok selection) = (selection.field ≡ at.field) × WantsInField at wanted selection
AnswersInField at wanted (Err reason) = RefusesInField at wanted reason

-- ---- what it has at its path

abbrev pub AnswersClause : List Entry → List ℕ → WantedText → Result Selection QueryReason → Type 0
AnswersClause schema path wanted answer = AtPathAs Clause (λ at. AnswersInField at wanted) schema path answer

abbrev pub Selects : List Entry → List ℕ → WantedText → Selection → Type 0
Selects schema path wanted selection = AnswersClause schema path wanted (Ok selection)

abbrev pub RefusesClause : List Entry → List ℕ → WantedText → QueryReason → Type 0
RefusesClause schema path wanted reason = AnswersClause schema path wanted (Err reason)

-- the refusals of a clause that take memory to find: those of its text or its path that do
abbrev pub TakesMemory : List Entry → QueryReason → Type 0
TakesMemory schema (Clause error) = RefusalTakesMemory schema error
TakesMemory schema reason = ⊥

-- ---- wanted terms

-- the term is one of those of the text, or in a range
abbrev pub IsWanted : Selection → List ℕ → Type 0
IsWanted selection term = Contains selection.exact term
    ⊎ Any (λ range. IsIn range term) selection.ranges.items

-- one of the terms is
abbrev pub HasWanted : List (List ℕ) → Selection → Type 0
HasWanted terms selection = Any (IsWanted selection) terms

-- ---- for private clauses

-- the reason for an error of a path or of a text
abbrev pub reason_of : TextTermsError → QueryReason
reason_of texts.Memory = Memory
reason_of error = Clause error

-- in a field of this type
abbrev pub TakesMemoryAt : FieldType → QueryReason → Type 0
TakesMemoryAt type (Clause error) = TakesMemoryIn type error
TakesMemoryAt type reason = ⊥

-- these are the terms of a text, or it is refused
abbrev pub HasTermsOfText : FoundField → List ℕ → Result (List (List ℕ)) QueryReason → Type 0
HasTermsOfText at text (Ok terms) = TermsInField at text (Ok terms)
HasTermsOfText at text (Err reason) = RefusesInField at (of_text text) reason
