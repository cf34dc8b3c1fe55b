-- What a clause has in the field of its path.
use Rattle.std.proofs.Common.{◌≡◌, ◌≢◌, List, ℕ, [], ◌∷◌, Result, Ok, Err, true, false, refl, sym, subst, ◌∙◌}
use Rattle.tv_field.specs.Entry.{Entry}
use Rattle.tv_field.specs.declared.field_type.FieldType.{FieldType}
use Rattle.tv_field.specs.declared.field_type.FieldType.TheVariants as types
use Rattle.tv_indexing.specs.IndexedField.{FindsField, FoundField, Names}
use Rattle.tv_indexing.specs.JsonRanges.{RangesOfText}
use Rattle.tv_indexing.specs.TakesMemory.{TakesMemoryIn}
use Rattle.tv_indexing.specs.Tells.{Tells, UnlessFirst}
use Rattle.tv_indexing.specs.TextRange.{BelowInField, bounds_written, no_bounds_written}
use Rattle.tv_indexing.specs.TextTerms.{IsWrongRange, TermsInField}
use Rattle.tv_indexing.proofs.Answering.{first-weaker, in_found}
use Rattle.tv_indexing.proofs.TakingMemory.{found_takes, in_schema, ranges_of_field, terms_of_field}
use Rattle.tv_indexing.specs.declared.text_terms_error.TextTermsError.{TextTermsError}
use Rattle.tv_indexing.specs.declared.text_terms_error.TextTermsError.TheVariants as texts
use Rattle.tv_query.specs.Selections.{AnswersClause, AnswersInField, RefusesInField, TakesMemory, TakesMemoryAt, WantsInField, has_prefixes, is_of_facets, reason_of}
use Rattle.tv_query.specs.Tokens.{WantedText, of_prefix, of_range, of_text}
use Rattle.tv_query.specs.declared.query_error.QueryReason.{QueryReason}
use Rattle.tv_query.specs.declared.query_error.QueryReason.TheVariants.{Clause, Memory}
use Rattle.tv_query.specs.declared.query_error.QueryReason.TheVariants as reasons
use Rattle.tv_query.specs.declared.selection.Selection.{Selection}
use Rattle.tv_term.specs.declared.range.TermRange.{TermRange}
use Rattle.tv_value.specs.declared.field.Field.{Field}

-- ---- reasons

pub is_reason : (e : TextTermsError) (reason : QueryReason) → reason ≡ reason_of e → reason ≢ Memory → (reason ≡ Clause e) × (e ≢ texts.Memory)
is_reason texts.Memory reason is some = absurd (some is)
is_reason (texts.UnknownPath start) reason is some = (is, λ e. cc)
is_reason (texts.NotIndexed field) reason is some = (is, λ e. cc)
is_reason (texts.PathEnds field) reason is some = (is, λ e. cc)
is_reason (texts.NulInPath field) reason is some = (is, λ e. cc)
is_reason (texts.WrongText field type why start) reason is some = (is, λ e. cc)
is_reason (texts.WrongRange start) reason is some = (is, λ e. cc)
is_reason (texts.Backwards field) reason is some = (is, λ e. cc)
is_reason (texts.NoRange field) reason is some = (is, λ e. cc)

-- ---- a text in a field of facets, and in another one

pub facet_text : (at : FoundField) (s : List ℕ) (selection : Selection) (range : TermRange) → is_of_facets at.type ≡ true → selection.exact ≡ [] → selection.ranges.items ≡ range ∷ [] → BelowInField at s (Ok range)
    → WantsInField at (of_text s) selection
facet_text at s selection range test none one below = rw test (none, range, one, below)

-- a text that is no facet is refused as a text
abbrev found_at : Field → FieldType → List ℕ → FoundField
found_at field type rest = record { field = field; type = type; rest = rest }

refused_by_type : (field : Field) (type : FieldType) (rest s : List ℕ) (e : TextTermsError) → is_of_facets type ≡ true → BelowInField (found_at field type rest) s (Err e) → TermsInField (found_at field type rest) s (Err e)
refused_by_type field (types.Facet options) rest s e test h = h
refused_by_type field (types.Str options) rest s e test h = absurd (cc)
refused_by_type field (types.U64 options) rest s e test h = absurd (cc)
refused_by_type field (types.I64 options) rest s e test h = absurd (cc)
refused_by_type field (types.Bool options) rest s e test h = absurd (cc)
refused_by_type field (types.Date options) rest s e test h = absurd (cc)
refused_by_type field (types.Bytes options) rest s e test h = absurd (cc)
refused_by_type field (types.JsonObject options) rest s e test h = absurd (cc)
refused_by_type field (types.IpAddr options) rest s e test h = absurd (cc)

pub facet_refused : (at : FoundField) (s : List ℕ) (e : TextTermsError) → is_of_facets at.type ≡ true → BelowInField at s (Err e) → TermsInField at s (Err e)
facet_refused at s e test h = refused_by_type at.field at.type at.rest s e test h

-- ---- a prefix

pub prefix_refused : (at : FoundField) (s : List ℕ) (reason : QueryReason) → has_prefixes at.type ≡ true → RefusesInField at (of_text s) reason → RefusesInField at (of_prefix s) reason
prefix_refused at s (Clause e) test h = (test, h)
prefix_refused at s reasons.NoOperand test h = absurd h
prefix_refused at s reasons.NoOperator test h = absurd h
prefix_refused at s reasons.Unopened test h = absurd h
prefix_refused at s reasons.Unclosed test h = absurd h
prefix_refused at s reasons.NoColon test h = absurd h
prefix_refused at s reasons.NoPath test h = absurd h
prefix_refused at s reasons.NoText test h = absurd h
prefix_refused at s reasons.Unended test h = absurd h
prefix_refused at s reasons.NoPrefix test h = absurd h
prefix_refused at s reasons.Memory test h = absurd h

-- ---- what takes memory to find

pub reason_memory : (e : TextTermsError) → reason_of e ≡ Memory → e ≡ texts.Memory
reason_memory texts.Memory is = refl
reason_memory (texts.UnknownPath start) is = absurd (cc)
reason_memory (texts.NotIndexed field) is = absurd (cc)
reason_memory (texts.PathEnds field) is = absurd (cc)
reason_memory (texts.NulInPath field) is = absurd (cc)
reason_memory (texts.WrongText field type why start) is = absurd (cc)
reason_memory (texts.WrongRange start) is = absurd (cc)
reason_memory (texts.Backwards field) is = absurd (cc)
reason_memory (texts.NoRange field) is = absurd (cc)

-- an error of a text or a path as a reason
pub reason_told : (Takes Holds : TextTermsError → Type 0) (May Is : QueryReason → Type 0) (e : TextTermsError) (reason : QueryReason) → reason ≡ reason_of e → ((x : TextTermsError) → Holds x → Is (Clause x))
    → (((x : TextTermsError) → Holds x → Takes x) → (why : QueryReason) → Is why → May why) → Tells texts.Memory Takes Holds e → Tells Memory May Is reason
reason_told Takes Holds May Is e reason is holds takes h = (
  λ some. let r = is_reason e reason is some in subst Is (sym r.0) (holds e (h.0 r.1)),
  λ memory. takes (h.1 (reason_memory e (sym is ∙ memory))),
)

pub memory_first : {T : Type 0} (Takes : QueryReason → Type 0) (IsAnswer : Result T QueryReason → Type 0) (result : Result T QueryReason) (y : QueryReason) → result ≡ Err y → y ≡ Memory → ((why : QueryReason) → IsAnswer (Err why) → Takes why)
    → UnlessFirst Memory Takes IsAnswer result
memory_first Takes IsAnswer result y is memory takes = rw is (λ some. absurd (some memory), λ also. takes)

-- the errors of the text of what is wanted are told
abbrev pub Told : FoundField → WantedText → Type 0
Told at (of_text s) = (e : TextTermsError) → TermsInField at s (Err e) → TakesMemoryIn at.type e
Told at (of_prefix s) = (has_prefixes at.type ≡ true) × ((e : TextTermsError) → TermsInField at s (Err e) → TakesMemoryIn at.type e)
Told at (of_range s) = (e : TextTermsError) → RangesOfText at s (Err e) → TakesMemoryIn at.type e

pub field_takes : (at : FoundField) (wanted : WantedText) (why : QueryReason) → Told at wanted → RefusesInField at wanted why → TakesMemoryAt at.type why
field_takes at (of_text s) (Clause e) told h = told e h
field_takes at (of_prefix s) (Clause e) told h = told.1 e h.1
field_takes at (of_range s) (Clause e) told h = told e h
field_takes at (of_prefix s) reasons.NoPrefix told h = let e : true ≡ false = sym told.0 ∙ h in absurd (cc)
field_takes at (of_text s) reasons.NoOperand told h = h
field_takes at (of_text s) reasons.NoOperator told h = h
field_takes at (of_text s) reasons.Unopened told h = h
field_takes at (of_text s) reasons.Unclosed told h = h
field_takes at (of_text s) reasons.NoColon told h = h
field_takes at (of_text s) reasons.NoPath told h = h
field_takes at (of_text s) reasons.NoText told h = h
field_takes at (of_text s) reasons.Unended told h = h
field_takes at (of_text s) reasons.NoPrefix told h = h
field_takes at (of_text s) reasons.Memory told h = h
field_takes at (of_prefix s) reasons.NoOperand told h = h
field_takes at (of_prefix s) reasons.NoOperator told h = h
field_takes at (of_prefix s) reasons.Unopened told h = h
field_takes at (of_prefix s) reasons.Unclosed told h = h
field_takes at (of_prefix s) reasons.NoColon told h = h
field_takes at (of_prefix s) reasons.NoPath told h = h
field_takes at (of_prefix s) reasons.NoText told h = h
field_takes at (of_prefix s) reasons.Unended told h = h
field_takes at (of_prefix s) reasons.Memory told h = h
field_takes at (of_range s) reasons.NoOperand told h = h
field_takes at (of_range s) reasons.NoOperator told h = h
field_takes at (of_range s) reasons.Unopened told h = h
field_takes at (of_range s) reasons.Unclosed told h = h
field_takes at (of_range s) reasons.NoColon told h = h
field_takes at (of_range s) reasons.NoPath told h = h
field_takes at (of_range s) reasons.NoText told h = h
field_takes at (of_range s) reasons.Unended told h = h
field_takes at (of_range s) reasons.NoPrefix told h = h
field_takes at (of_range s) reasons.Memory told h = h

below_by_type : (field : Field) (type : FieldType) (rest s : List ℕ) (e : TextTermsError) → is_of_facets type ≡ true → TermsInField (found_at field type rest) s (Err e) → BelowInField (found_at field type rest) s (Err e)
below_by_type field (types.Facet options) rest s e test h = h
below_by_type field (types.Str options) rest s e test h = absurd (cc)
below_by_type field (types.U64 options) rest s e test h = absurd (cc)
below_by_type field (types.I64 options) rest s e test h = absurd (cc)
below_by_type field (types.Bool options) rest s e test h = absurd (cc)
below_by_type field (types.Date options) rest s e test h = absurd (cc)
below_by_type field (types.Bytes options) rest s e test h = absurd (cc)
below_by_type field (types.JsonObject options) rest s e test h = absurd (cc)
below_by_type field (types.IpAddr options) rest s e test h = absurd (cc)

pub facet_below : (at : FoundField) (s : List ℕ) (e : TextTermsError) → is_of_facets at.type ≡ true → TermsInField at s (Err e) → BelowInField at s (Err e)
facet_below at s e test h = below_by_type at.field at.type at.rest s e test h

-- ---- in a schema

written_field : (at : FoundField) (s : List ℕ) (e : TextTermsError) (field : Field) → RangesOfText at s (Err e) → e ≡ texts.Backwards field → field ≡ at.field
written_field at s e field (no_bounds_written none f wrong be) is = let same : f ≡ texts.Backwards field = cc in absurd (subst (IsWrongRange s) same wrong)
written_field at s e field (bounds_written start end writes h) is = ranges_of_field at start end e field h is

wanted_field : (at : FoundField) (wanted : WantedText) (e : TextTermsError) (field : Field) → RefusesInField at wanted (Clause e) → e ≡ texts.Backwards field → field ≡ at.field
wanted_field at (of_text s) e field h is = terms_of_field at s e field h is
wanted_field at (of_prefix s) e field h is = terms_of_field at s e field h.1 is
wanted_field at (of_range s) e field h is = written_field at s e field h is

clause_takes : (schema : List Entry) (path : List ℕ) (at : FoundField) (wanted : WantedText) (why : QueryReason) → Names schema path at → RefusesInField at wanted why → TakesMemoryAt at.type why → TakesMemory schema why
clause_takes schema path at wanted (Clause e) names h takes = in_schema schema path at e names (λ field is. wanted_field at wanted e field h is) takes
clause_takes schema path at wanted reasons.NoOperand names h takes = takes
clause_takes schema path at wanted reasons.NoOperator names h takes = takes
clause_takes schema path at wanted reasons.Unopened names h takes = takes
clause_takes schema path at wanted reasons.Unclosed names h takes = takes
clause_takes schema path at wanted reasons.NoColon names h takes = takes
clause_takes schema path at wanted reasons.NoPath names h takes = takes
clause_takes schema path at wanted reasons.NoText names h takes = takes
clause_takes schema path at wanted reasons.Unended names h takes = takes
clause_takes schema path at wanted reasons.NoPrefix names h takes = takes
clause_takes schema path at wanted reasons.Memory names h takes = takes

pub unless_first : (schema : List Entry) (path : List ℕ) (wanted : WantedText) (at : FoundField) (result : Result Selection QueryReason) → FindsField schema path (Ok at) → UnlessFirst Memory (TakesMemoryAt at.type) (AnswersInField at wanted) result
    → UnlessFirst Memory (TakesMemory schema) (AnswersClause schema path wanted) result
unless_first schema path wanted at result finds h =
    first-weaker Memory (TakesMemoryAt at.type) (TakesMemory schema) (AnswersInField at wanted) (AnswersClause schema path wanted) result (λ answer a. in_found Clause (λ found. AnswersInField found wanted) schema path at answer finds a)
    (λ told why r. found_takes Clause (λ found. AnswersInField found wanted) schema path at (TakesMemory schema) why finds (λ names x. clause_takes schema path at wanted why names x (told why x)) r) h
