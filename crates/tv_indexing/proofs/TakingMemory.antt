-- Which refusals of a path or a text take memory to find.
use Rattle.std.proofs.Common.{◌≡◌, ◌≢◌, Bool, true, false, List, [], ℕ, Option, Some, None, Result, Ok, Err, slice_get, refl, sym, ap, subst, ◌∙◌, inl, inr}
use Rattle.std.specs.Global.{Vec}
use Rattle.std.specs.declared.ops.Bound.{Bound}
use Rattle.std.specs.declared.ops.Bound.TheVariants.{Included, Excluded, Unbounded}
use Rattle.tv_base.specs.JsonPath.{joined_path}
use Rattle.tv_field.specs.Entry.{Entry, is_indexed_type}
use Rattle.tv_field.specs.declared.field_type.FieldType.{FieldType}
use Rattle.tv_field.specs.declared.field_type.FieldType.TheVariants as types
use Rattle.tv_indexing.specs.DocumentTerms.{has_zero}
use Rattle.tv_indexing.specs.IndexedField.{AtPathAs, BelowJson, FindsField, FoundField, JsonOrPlain, Names, indexed, not_indexed, refused, unknown}
use Rattle.tv_indexing.specs.JsonBounds.{RunBackwards}
use Rattle.tv_indexing.specs.JsonRanges.{OneRange, RangesAnswer, RangesAt, RangesBelow, RangesInField, ranges_in}
use Rattle.tv_indexing.specs.TakesMemory.{RepeatsStart, TakesMemory, TakesMemoryIn}
use Rattle.tv_indexing.specs.TextRange.{BelowInField, InWrittenBounds, RangeAnswer, RangeInField, RangeOfTexts, RangeWithBelow, RefusesBoth, RefusesBound, WritesBounds, backwards, bounding, bounds_written, first, no_bounds_written, second}
use Rattle.tv_indexing.specs.TextTerms.{TermOfText, TermsAnswer, TermsBelow, TermsInField, WritesTerms}
use Rattle.tv_indexing.specs.declared.text_terms_error.TextTermsError.{TextTermsError}
use Rattle.tv_indexing.specs.declared.text_terms_error.TextTermsError.TheVariants as errors
use Rattle.tv_indexing.proofs.OneAnswer.{IsRefused, below_cases, names_one, named_or_none, path_or_field, unknown_is, wrong_text_is}
use Rattle.tv_indexing.proofs.OneRange.{backwards_one, bounds_one, wrong_range_is}
use Rattle.tv_options.specs.declared.own_part.DotExpansion.{DotExpansion}
use Rattle.tv_options.specs.declared.textual_options.TextualOptions.{TextualOptions}
use Rattle.tv_schema.specs.Path.{find_or}
use Rattle.tv_term.specs.declared.range.TermRange.{TermRange}
use Rattle.tv_value.specs.declared.field.Field.{Field}

-- ---- at a path

-- the error for a path that names no field
pub unnamed_takes : {T E : Type 0} (error : TextTermsError → E) (Answers : FoundField → Result T E → Type 0) (schema : List Entry) (path : List ℕ) (Takes : E → Type 0) (why : E) → ((start : _) → Takes (error (errors.UnknownPath start)))
    → find_or schema path None ≡ None → AtPathAs error Answers schema path (Err why) → Takes why
unnamed_takes error Answers schema path Takes why takes none (refused e (unknown also x) is) =
    let u = unknown_is path e x in
    let same : why ≡ error e = cc in subst Takes (sym (same ∙ ap error u.1)) (takes u.0)
unnamed_takes error Answers schema path Takes why takes none (refused e (not_indexed at names unindexed x) is) = absurd (named_or_none schema path at names none)
unnamed_takes error Answers schema path Takes why takes none (indexed at names has x) = absurd (named_or_none schema path at names none)

found_is : (schema : List Entry) (path : List ℕ) (at : FoundField) → FindsField schema path (Ok at) → Names schema path at × (is_indexed_type at.type ≡ true)
found_is schema path at (refused e x is) = absurd (cc)
found_is schema path at (indexed found names has is) =
    let same : found ≡ at = cc in (subst (Names schema path) same names, subst (λ (f : FoundField). is_indexed_type f.type ≡ true) same has)

-- in the field that the path names
pub found_takes : {T E : Type 0} (error : TextTermsError → E) (Answers : FoundField → Result T E → Type 0) (schema : List Entry) (path : List ℕ) (at : FoundField) (Takes : E → Type 0) (why : E) → FindsField schema path (Ok at)
    → (Names schema path at → Answers at (Err why) → Takes why) → AtPathAs error Answers schema path (Err why) → Takes why
found_takes error Answers schema path at Takes why found takes (refused e x is) = let f = found_is schema path at found in absurd (path_or_field schema path at e f.0 f.1 x)
found_takes error Answers schema path at Takes why found takes (indexed other names has x) =
    let f = found_is schema path at found in takes f.0 (subst (λ (g : FoundField). Answers g (Err why)) (names_one schema path other at names f.0) x)

-- of one field in a schema
pub in_schema : (schema : List Entry) (path : List ℕ) (at : FoundField) (e : TextTermsError) → Names schema path at → ((field : Field) → e ≡ errors.Backwards field → field ≡ at.field) → TakesMemoryIn at.type e → TakesMemory schema e
in_schema schema path at (errors.Backwards field) names of_field takes = λ entry is.
    let entries : ◌≡◌ {A = Option Entry} (Some names.entry) (Some entry) = sym names.is_entry ∙ ap (λ (f : Field). slice_get schema f.id) (sym (of_field field refl)) ∙ is in
    let one : names.entry ≡ entry = cc in
    subst (λ (t : FieldType). TakesMemoryIn t (errors.Backwards field)) (sym names.has_type ∙ ap (λ (x : Entry). x.field_type) one) takes
in_schema schema path at (errors.UnknownPath start) names of_field takes = takes
in_schema schema path at (errors.NotIndexed f) names of_field takes = takes
in_schema schema path at (errors.PathEnds f) names of_field takes = takes
in_schema schema path at (errors.NulInPath f) names of_field takes = takes
in_schema schema path at (errors.WrongText f t w start) names of_field takes = takes
in_schema schema path at (errors.WrongRange start) names of_field takes = takes
in_schema schema path at (errors.NoRange f) names of_field takes = takes
in_schema schema path at errors.Memory names of_field takes = takes

-- ---- a text that is no value, and bounds that run backwards

refused_takes : (field : Field) (type of_type : FieldType) (s : List ℕ) (e : TextTermsError) → IsRefused field type s e → TakesMemoryIn of_type e
refused_takes field type of_type s e x = let w = wrong_text_is _ _ _ s e x.2 in subst (TakesMemoryIn of_type) (sym w.1) tt

bound_takes : (field : Field) (type of_type : FieldType) (bound : Bound (List ℕ)) (e : TextTermsError) → RefusesBound field type bound e → TakesMemoryIn of_type e
bound_takes field type of_type (Included s) e x = refused_takes field type of_type s e x
bound_takes field type of_type (Excluded s) e x = refused_takes field type of_type s e x
bound_takes field type of_type Unbounded e x = absurd x

both_take : (field : Field) (type : FieldType) (start end : Bound (List ℕ)) (e : TextTermsError) → JsonOrPlain type (λ expand_dots. ⊥) (Unit {0}) → RefusesBoth field type start end e → TakesMemoryIn type e
both_take field type start end e plain (first x) = bound_takes field type type start e x
both_take field type start end e plain (second lo w x) = bound_takes field type type end e x
both_take field type start end e plain (backwards lo hi w told is) = subst (TakesMemoryIn type) (sym is) plain

not_refused_backwards : (field : Field) (type : FieldType) (bound : Bound (List ℕ)) (f : Field) → RefusesBound field type bound (errors.Backwards f) → ⊥
not_refused_backwards field type (Included s) f x = x.2
not_refused_backwards field type (Excluded s) f x = x.2
not_refused_backwards field type Unbounded f x = x

backwards_field : (field : Field) (type : FieldType) (start end : Bound (List ℕ)) (f : Field) → RefusesBoth field type start end (errors.Backwards f) → f ≡ field
backwards_field field type start end f (first x) = absurd (not_refused_backwards field type start f x)
backwards_field field type start end f (second lo w x) = absurd (not_refused_backwards field type end f x)
backwards_field field type start end f (backwards lo hi w told is) = cc

-- ---- by the field's type

by_type : (type : FieldType) (Json : Bool → Type 0) (Plain Goal : Type 0) → ((options : TextualOptions DotExpansion) → type ≡ types.JsonObject options → Json options.part.expand_dots_enabled → Goal)
    → (JsonOrPlain type (λ expand_dots. ⊥) (Unit {0}) → Plain → Goal) → JsonOrPlain type Json Plain → Goal
by_type (types.JsonObject options) Json Plain Goal json plain h = json options refl h
by_type (types.Str options) Json Plain Goal json plain h = plain tt h
by_type (types.U64 options) Json Plain Goal json plain h = plain tt h
by_type (types.I64 options) Json Plain Goal json plain h = plain tt h
by_type (types.Bool options) Json Plain Goal json plain h = plain tt h
by_type (types.Date options) Json Plain Goal json plain h = plain tt h
by_type (types.Facet options) Json Plain Goal json plain h = plain tt h
by_type (types.Bytes options) Json Plain Goal json plain h = plain tt h
by_type (types.IpAddr options) Json Plain Goal json plain h = plain tt h

-- a path into JSON objects that has keys, and none with U+0000
abbrev pub IsKeyPath : List ℕ → Type 0
IsKeyPath path = (path ≢ []) × (has_zero path ≡ false)

below_takes : {T : Type 0} (Answers : Result T TextTermsError → Type 0) (field : Field) (path : List ℕ) (why : TextTermsError) (Goal : Type 0) → IsKeyPath path → (Answers (Err why) → Goal) → BelowJson Answers field path (Err why) → Goal
below_takes {T = T} Answers field path why Goal keys takes h = elim (below_cases {T = T} (λ a b. ⊥) Answers field path (Err why) h) [
  | inl x ↦ absurd (keys.0 x.1)
  | inr y ↦ elim y [ inl z ↦ (let e : true ≡ false = sym z.1 ∙ keys.1 in absurd (cc)) | inr z ↦ takes z.2 ]
]

abbrev pub WhereJson : FoundField → Type 0 → Type 0
WhereJson at Fact = (options : TextualOptions DotExpansion) → at.type ≡ types.JsonObject options → Fact

pub terms_take : (at : FoundField) (s : List ℕ) (why : TextTermsError) → WhereJson at (IsKeyPath at.rest) → TermsInField at s (Err why) → TakesMemoryIn at.type why
terms_take at s why keys h = by_type at.type (λ d. TermsBelow at.field d at.rest s (Err why)) (TermOfText at.field at.type s (Err why)) (TakesMemoryIn at.type why)
    (λ options is j. below_takes (WritesTerms at.field (joined_path options.part.expand_dots_enabled at.rest) s) at.field at.rest why (TakesMemoryIn at.type why) (keys options is) (λ none. absurd none) j)
    (λ plain x. refused_takes at.field at.type at.type s why x) h

pub ranges_take : (at : FoundField) (start end : Bound (List ℕ)) (why : TextTermsError) → WhereJson at (IsKeyPath at.rest × RunBackwards (bounding start) (bounding end) false) → RangesInField at start end (Err why) → TakesMemoryIn at.type why
ranges_take at start end why forwards h = by_type at.type (λ d. RangesBelow at.field d at.rest start end (Err why)) (OneRange at.field at.type start end (Err why)) (TakesMemoryIn at.type why)
    (λ options is j. below_takes (RangesAt at.field (joined_path options.part.expand_dots_enabled at.rest) start end) at.field at.rest why (TakesMemoryIn at.type why) (forwards options is).0
    (λ x. let e : false ≡ true = backwards_one (bounding start) (bounding end) false true (forwards options is).1 x.0 in absurd (cc)) j)
    (λ plain x. both_take at.field at.type start end why plain x) h

pub range_takes : (at : FoundField) (start end : Bound (List ℕ)) (why : TextTermsError) → WhereJson at ⊥ → RangeInField at start end (Err why) → TakesMemoryIn at.type why
range_takes at start end why not_json h = by_type at.type (λ d. ◌≡◌ {A = RangeAnswer} (Err why) (Err (errors.NoRange at.field))) (RangeOfTexts at.field at.type start end (Err why)) (TakesMemoryIn at.type why)
    (λ options is j. absurd (not_json options is)) (λ plain x. both_take at.field at.type start end why plain x) h

pub below_field_takes : (at : FoundField) (s : List ℕ) (why : TextTermsError) → WhereJson at ⊥ → BelowInField at s (Err why) → TakesMemoryIn at.type why
below_field_takes at s why not_json h = by_type at.type (λ d. ◌≡◌ {A = RangeAnswer} (Err why) (Err (errors.NoRange at.field))) (RangeWithBelow at.field at.type s (Err why)) (TakesMemoryIn at.type why)
    (λ options is j. absurd (not_json options is)) (λ plain x. refused_takes at.field at.type at.type s why x) h

-- ---- the field of bounds that run backwards

pub terms_of_field : (at : FoundField) (s : List ℕ) (why : TextTermsError) (field : Field) → TermsInField at s (Err why) → why ≡ errors.Backwards field → field ≡ at.field
terms_of_field at s why field h is = by_type at.type (λ d. TermsBelow at.field d at.rest s (Err (errors.Backwards field))) (TermOfText at.field at.type s (Err (errors.Backwards field))) (field ≡ at.field)
    (λ options json x. absurd x.2) (λ plain x. absurd x.2) (subst (λ (e : TextTermsError). TermsInField at s (Err e)) is h)

pub ranges_of_field : (at : FoundField) (start end : Bound (List ℕ)) (why : TextTermsError) (field : Field) → RangesInField at start end (Err why) → why ≡ errors.Backwards field → field ≡ at.field
ranges_of_field at start end why field h is =
    by_type at.type (λ d. RangesBelow at.field d at.rest start end (Err (errors.Backwards field))) (OneRange at.field at.type start end (Err (errors.Backwards field))) (field ≡ at.field)
    (λ options json x. let e : errors.Backwards field ≡ errors.Backwards at.field = x.2.1 in cc) (λ plain x. backwards_field at.field at.type start end field x) (subst (λ (e : TextTermsError). RangesInField at start end (Err e)) is h)

pub range_of_field : (at : FoundField) (start end : Bound (List ℕ)) (why : TextTermsError) (field : Field) → RangeInField at start end (Err why) → why ≡ errors.Backwards field → field ≡ at.field
range_of_field at start end why field h is =
    by_type at.type (λ d. ◌≡◌ {A = RangeAnswer} (Err (errors.Backwards field)) (Err (errors.NoRange at.field))) (RangeOfTexts at.field at.type start end (Err (errors.Backwards field))) (field ≡ at.field)
    (λ options json x. absurd (cc)) (λ plain x. backwards_field at.field at.type start end field x) (subst (λ (e : TextTermsError). RangeInField at start end (Err e)) is h)

-- ---- a text that writes bounds

-- it writes none
pub unwritten_takes : {T : Type 0} (Answers : Bound (List ℕ) → Bound (List ℕ) → Result T TextTermsError → Type 0) (s : List ℕ) (Takes : TextTermsError → Type 0) (why : TextTermsError) → ((start : _) → Takes (errors.WrongRange start))
    → ((start end : Bound (List ℕ)) → ¬ WritesBounds s start end) → InWrittenBounds Answers s (Err why) → Takes why
unwritten_takes Answers s Takes why takes none (no_bounds_written also e x is) =
    let w = wrong_range_is s e x in
    let same : why ≡ e = cc in subst Takes (sym (same ∙ w.1)) (takes w.0)
unwritten_takes Answers s Takes why takes none (bounds_written start end writes x) = absurd (none start end writes)

-- it writes these
pub written_takes : {T : Type 0} (Answers : Bound (List ℕ) → Bound (List ℕ) → Result T TextTermsError → Type 0) (s : List ℕ) (start end : Bound (List ℕ)) (Goal : Type 0) (why : TextTermsError) → WritesBounds s start end
    → (Answers start end (Err why) → Goal) → InWrittenBounds Answers s (Err why) → Goal
written_takes Answers s start end Goal why writes takes (no_bounds_written none e x is) = absurd (none start end writes)
written_takes Answers s start end Goal why writes takes (bounds_written c d also x) =
    let same = bounds_one s c d start end also writes in
    takes (subst (λ (e : Bound (List ℕ)). Answers start e (Err why)) same.1 (subst (λ (b : Bound (List ℕ)). Answers b d (Err why)) same.0 x))

-- ---- ranges in a list

pub memory_is : (result : Result (Vec TermRange) TextTermsError) → ranges_in result ≡ Err errors.Memory → result ≡ Err errors.Memory
memory_is (Ok ranges) is = absurd (cc)
memory_is (Err e) is = let same : e ≡ errors.Memory = cc in ap Err same
