-- A text has one answer as a range: two that the definitions allow agree.
use Rattle.std.proofs.Common.{◌≡◌, ◌↔◌, ◌⊎◌, ◌<◌, ◌+◌, ℕ, zero, suc, Bool, true, false, List, [], ◌∷◌, ◌++◌, length, codes, get_or, Option, Some, None, Result, Ok, Err, arith, refl, sym, subst, ap, ◌∙◌, inl, inr, string_bytes}
use Rattle.std.proofs.lemmas.List.{append_cancel_left, length-append, same_from_push}
use Rattle.std.specs.Fmt.{take_chars}
use Rattle.std.specs.List.{Any}
use Rattle.std.specs.Cmp.Lexicographic.{slice_cmp}
use Rattle.std.specs.Ordering.{is_lt, nat_cmp}
use Rattle.std.specs.declared.ops.Bound.{Bound}
use Rattle.std.specs.declared.ops.Bound.TheVariants.{Included, Excluded, Unbounded}
use Rattle.tv_base.proofs.Texts.{same_prefix}
use Rattle.tv_base.specs.JsonPath.{joined_path}
use Rattle.tv_date.specs.Rfc3339.{rfc}
use Rattle.tv_field.specs.Entry.{value_type}
use Rattle.tv_field.specs.JsonTable.{truth_in}
use Rattle.tv_field.specs.declared.field_type.FieldType.{FieldType}
use Rattle.tv_format.specs.Tree.{Leaf}
use Rattle.tv_indexing.specs.Agree.{Agree, FindSame, HaveSame, SaySame}
use Rattle.tv_indexing.specs.IndexedField.{FoundField}
use Rattle.tv_indexing.specs.JsonBounds.{RunBackwards, above, told_or}
use Rattle.tv_indexing.specs.JsonRanges.{AreBoundValues, AreOfKind, AreRangesOf, EndsIn, IsBetweenAt, OneRange, RangesAnswer, RangesAt, RangesBelow, RangesInField, RangesOfText, StartsIn, WritesEnd, type_of_kind}
use Rattle.tv_indexing.specs.JsonRanges.{signed_end, signed_start, unsigned_end, unsigned_start}
use Rattle.tv_indexing.specs.LeafTerms.{leaf_value}
use Rattle.tv_indexing.specs.TextRange.{ArePartedBounds, BelowInField, InWrittenBounds, IsEndBound, IsOrIsBelow, IsStartBound, RangeAnswer, RangeInField, RangeOfTexts, RangeWithBelow, RefusesBoth, RefusesBound, WriteBoth, WritesBound, WritesBounds, WritesTerm}
use Rattle.tv_indexing.specs.TextRange.{are_backwards, backwards, bound_of, bounding, bounds, bounds_written, closing_bracket, first, no_bounds, no_bounds_written, opening_bracket, outer_bound, second}
use Rattle.tv_indexing.specs.TextTerms.{IsWrongRange, date_written_in}
use Rattle.tv_indexing.specs.declared.json_ranges.JsonKind.{JsonKind}
use Rattle.tv_indexing.specs.declared.json_ranges.JsonKind.TheVariants as kinds
use Rattle.tv_indexing.specs.declared.text_terms_error.TextTermsError.{TextTermsError}
use Rattle.tv_indexing.specs.declared.text_terms_error.TextTermsError.TheVariants as errors
use Rattle.tv_indexing.proofs.OneAnswer.{below_one, leaf_one, no_value, number_one, refusal_one, typed_one}
use Rattle.tv_term.specs.Key.{TermValue}
use Rattle.tv_term.specs.Range.{HasTerms, IsBetween, IsIn}
use Rattle.tv_term.specs.declared.range.TermRange.{TermRange}
use Rattle.tv_value.specs.declared.field.Field.{Field}

-- ---- some element

any_of_cons : {X : Type 0} (P : X → Type 0) (x : X) (xs : List X) (k : ℕ) (y : X) → k < length (x ∷ xs) → get_or (x ∷ xs) k y ≡ y → P y → P x ⊎ Any P xs
any_of_cons P x xs zero y lt is p = inl (subst P (sym is) p)
any_of_cons P x xs (suc k) y lt is p = inr (k, y, omega arith, is, p)

pub any_cons : {X : Type 0} (P : X → Type 0) (x : X) (xs : List X) → Any P (x ∷ xs) → P x ⊎ Any P xs
any_cons P x xs a = any_of_cons P x xs a.0 a.1 a.2 a.3 a.4

pub any_rest : {X : Type 0} (P : X → Type 0) (x : X) (xs : List X) → Any P xs → Any P (x ∷ xs)
any_rest P x xs a = (suc a.0, a.1, omega (arith, a.2), a.3, a.4)

any_first : {X : Type 0} (P : X → Type 0) (x : X) (xs : List X) → P x → Any P (x ∷ xs)
any_first P x xs p = (0, x, omega arith, refl, p)

no_any : {X : Type 0} (P : X → Type 0) → Any P [] → ⊥
no_any P a = omega (arith, a.2)

any_parts : {X : Type 0} (P : X → Type 0) (xs ys : List X) → Any P (xs ++ ys) → Any P xs ⊎ Any P ys
any_parts P [] ys a = inr a
any_parts P (x ∷ xs) ys a = elim (any_cons P x (xs ++ ys) a) [
  | inl p ↦ inl (any_first P x xs p)
  | inr b ↦ elim (any_parts P xs ys b) [ inl c ↦ inl (any_rest P x xs c) | inr d ↦ inr d ]
]

any_before : {X : Type 0} (P : X → Type 0) (xs ys : List X) → Any P xs → Any P (xs ++ ys)
any_before P [] ys a = absurd (no_any P a)
any_before P (x ∷ xs) ys a = elim (any_cons P x xs a) [ inl p ↦ any_first P x (xs ++ ys) p | inr b ↦ any_rest P x (xs ++ ys) (any_before P xs ys b) ]

any_after : {X : Type 0} (P : X → Type 0) (xs ys : List X) → Any P ys → Any P (xs ++ ys)
any_after P [] ys a = a
any_after P (x ∷ xs) ys a = any_rest P x (xs ++ ys) (any_after P xs ys a)

-- ---- ranges that have the same terms

pub has_same : (P : ℕ → TermValue → Type 0) (range other : TermRange) → HasTerms P range → HasTerms P other → HaveSame range other
has_same P range other has also = λ term some.
    let a = has term some.1 some.2 some.0 some.3 in
    let b = also term some.1 some.2 some.0 some.3 in (λ i. b.1 (a.0 i), λ i. a.1 (b.0 i))

pub find_one : (range other : TermRange) (ranges others : List TermRange) → ranges ≡ range ∷ [] → others ≡ other ∷ [] → HaveSame range other → FindSame ranges others
find_one range other ranges others is also same = λ term some. rw (is, also) (
  λ a. elim (any_cons (λ (r : TermRange). IsIn r term) range [] a) [ inl p ↦ any_first (λ (r : TermRange). IsIn r term) other [] ((same term some).0 p) | inr b ↦ absurd (no_any (λ (r : TermRange). IsIn r term) b) ],
  λ a. elim (any_cons (λ (r : TermRange). IsIn r term) other [] a) [ inl p ↦ any_first (λ (r : TermRange). IsIn r term) range [] ((same term some).1 p) | inr b ↦ absurd (no_any (λ (r : TermRange). IsIn r term) b) ],
)

find_both : (a b c d : List TermRange) → FindSame a b → FindSame c d → FindSame (a ++ c) (b ++ d)
find_both a b c d front rest = λ term some.
    let P = λ (r : TermRange). IsIn r term in (
      λ i. elim (any_parts P a c i) [ inl x ↦ any_before P b d ((front term some).0 x) | inr y ↦ any_after P b d ((rest term some).0 y) ],
      λ i. elim (any_parts P b d i) [ inl x ↦ any_before P a c ((front term some).1 x) | inr y ↦ any_after P a c ((rest term some).1 y) ],
    )

pub find_itself : (a b : List TermRange) → a ≡ b → FindSame a b
find_itself a b same = λ term some. rw same (λ i. i, λ i. i)

-- ---- two texts that are values of a field

value_one : (type : FieldType) (s : List ℕ) (l m : Leaf) (v w : TermValue) → WritesTerm type s l v → WritesTerm type s m w → v ≡ w
value_one type s l m v w x y =
    let same : ◌≡◌ {A = Option TermValue} (Some v) (Some w) = sym x.has_term ∙ ap leaf_value (leaf_one type s l m x.is_value y.is_value) ∙ y.has_term in cc

bound_one : (type : FieldType) (bound : Bound (List ℕ)) (a b : Bound TermValue) → WritesBound type bound a → WritesBound type bound b → a ≡ b
bound_one type (Included s) a b x y = x.3 ∙ ap Included (value_one type s x.0 y.0 x.1 y.1 x.2 y.2) ∙ sym y.3
bound_one type (Excluded s) a b x y = x.3 ∙ ap (outer_bound type) (value_one type s x.0 y.0 x.1 y.1 x.2 y.2) ∙ sym y.3
bound_one type Unbounded a b x y = x ∙ sym y

bound_refused : (field : Field) (type : FieldType) (bound : Bound (List ℕ)) (e f : TextTermsError) → RefusesBound field type bound e → RefusesBound field type bound f → SaySame e f
bound_refused field type (Included s) e f x y = refusal_one field type s e f x y
bound_refused field type (Excluded s) e f x y = refusal_one field type s e f x y
bound_refused field type Unbounded e f x y = absurd x

no_bound : (field : Field) (type : FieldType) (bound : Bound (List ℕ)) (a : Bound TermValue) (e : TextTermsError) → WritesBound type bound a → RefusesBound field type bound e → ⊥
no_bound field type (Included s) a e x y = no_value field type s x.0 e x.2.is_value y
no_bound field type (Excluded s) a e x y = no_value field type s x.0 e x.2.is_value y
no_bound field type Unbounded a e x y = y

module _ (field : Field) (type : FieldType) (start end : Bound (List ℕ)) where
  both_one : (e f : TextTermsError) → RefusesBoth field type start end e → RefusesBoth field type start end f → SaySame e f
  both_one e f (first x) (first y) = bound_refused field type start e f x y
  both_one e f (first x) (second lo w y) = absurd (no_bound field type start lo e w x)
  both_one e f (first x) (backwards lo hi w told y) = absurd (no_bound field type start lo e w.starts x)
  both_one e f (second lo v x) (first y) = absurd (no_bound field type start lo f v y)
  both_one e f (second lo v x) (second l w y) = bound_refused field type end e f x y
  both_one e f (second lo v x) (backwards l hi w told y) = absurd (no_bound field type end hi e w.ends x)
  both_one e f (backwards lo hi v told x) (first y) = absurd (no_bound field type start lo f v.starts y)
  both_one e f (backwards lo hi v told x) (second l w y) = absurd (no_bound field type end hi f v.ends y)
  both_one e f (backwards lo hi v told x) (backwards l h w also y) = rw (x, y) refl

  both_or_none : (lo hi : Bound TermValue) (e : TextTermsError) → WriteBoth type start end lo hi → are_backwards (bounding lo) (bounding hi) ≡ false → RefusesBoth field type start end e → ⊥
  both_or_none lo hi e w told (first x) = no_bound field type start lo e w.starts x
  both_or_none lo hi e w told (second l v x) = no_bound field type end hi e w.ends x
  both_or_none lo hi e w told (backwards l h v also x) =
      let same : true ≡ false = sym also ∙ ap (λ (b : Bound TermValue). are_backwards (bounding b) (bounding h)) (bound_one type start l lo v.starts w.starts) ∙ ap (λ (b : Bound TermValue). are_backwards (bounding lo) (bounding b)) (bound_one type end h hi v.ends w.ends) ∙ told in absurd (cc)

  range_one : (a b : RangeAnswer) → RangeOfTexts field type start end a → RangeOfTexts field type start end b → Agree SaySame HaveSame a b
  range_one (Ok range) (Ok other) x y =
      let los = bound_one type start y.0 x.0 y.2.starts x.2.starts in
      let his = bound_one type end y.1 x.1 y.2.ends x.2.ends in
      has_same (IsBetween field.id (value_type type) x.0 x.1) range other x.4
      (subst (λ (hi : Bound TermValue). HasTerms (IsBetween field.id (value_type type) x.0 hi) other) his (subst (λ (lo : Bound TermValue). HasTerms (IsBetween field.id (value_type type) lo y.1) other) los y.4))
  range_one (Ok range) (Err f) x y = both_or_none x.0 x.1 f x.2 x.3 y
  range_one (Err e) (Ok other) x y = both_or_none y.0 y.1 e y.2 y.3 x
  range_one (Err e) (Err f) x y = both_one e f x y

  -- the one range of a list
  listed_one : (a b : RangesAnswer) → OneRange field type start end a → OneRange field type start end b → Agree SaySame FindSame a b
  listed_one (Ok ranges) (Ok others) x y = find_one x.0 y.0 ranges others x.1 y.1 (range_one (Ok x.0) (Ok y.0) x.2 y.2)
  listed_one (Ok ranges) (Err f) x y = range_one (Ok x.0) (Err f) x.2 y
  listed_one (Err e) (Ok others) x y = range_one (Err e) (Ok y.0) x y.2
  listed_one (Err e) (Err f) x y = both_one e f x y

no_range : (field : Field) (a b : RangeAnswer) → a ≡ Err (errors.NoRange field) → b ≡ Err (errors.NoRange field) → Agree SaySame HaveSame a b
no_range field a b x y = rw (x, y) refl

with_below_one : (field : Field) (type : FieldType) (s : List ℕ) (a b : RangeAnswer) → RangeWithBelow field type s a → RangeWithBelow field type s b → Agree SaySame HaveSame a b
with_below_one field type s (Ok range) (Ok other) x y =
    has_same (IsOrIsBelow field.id x.1) range other x.3 (subst (λ (v : TermValue). HasTerms (IsOrIsBelow field.id v) other) (value_one type s y.0 x.0 y.1 x.1 y.2 x.2) y.3)
with_below_one field type s (Ok range) (Err f) x y = no_value field type s x.0 f x.2.is_value y
with_below_one field type s (Err e) (Ok other) x y = no_value field type s y.0 e y.2.is_value x
with_below_one field type s (Err e) (Err f) x y = refusal_one field type s e f x y

-- ---- a path into JSON objects

end_one : (of_signed of_unsigned : Bool → Option Leaf → Option (Bound Leaf)) (kind : JsonKind) (is_within : Bool) (s : List ℕ) (a b : Option (Bound Leaf)) → WritesEnd of_signed of_unsigned kind is_within s a → WritesEnd of_signed of_unsigned kind is_within s b → a ≡ b
end_one of_signed of_unsigned kinds.Date is_within s a b x y = x ∙ sym y
end_one of_signed of_unsigned kinds.Signed is_within s a b x y = x.2 ∙ ap (of_signed is_within) (number_one s x.0 y.0 x.1 y.1) ∙ sym y.2
end_one of_signed of_unsigned kinds.Truth is_within s a b x y = x ∙ sym y
end_one of_signed of_unsigned kinds.Text is_within s a b x y = x ∙ sym y
end_one of_signed of_unsigned kinds.Unsigned is_within s a b x y = x.2 ∙ ap (of_unsigned is_within) (number_one s x.0 y.0 x.1 y.1) ∙ sym y.2

starts_one : (kind : JsonKind) (start : Bound (List ℕ)) (a b : Option (Bound Leaf)) → StartsIn kind start a → StartsIn kind start b → a ≡ b
starts_one kind (Included s) a b x y = end_one signed_start unsigned_start kind true s a b x y
starts_one kind (Excluded s) a b x y = end_one signed_start unsigned_start kind false s a b x y
starts_one kind Unbounded a b x y = x ∙ sym y

ends_one : (kind : JsonKind) (end : Bound (List ℕ)) (a b : Option (Bound Leaf)) → EndsIn kind end a → EndsIn kind end b → a ≡ b
ends_one kind (Included s) a b x y = end_one signed_end unsigned_end kind true s a b x y
ends_one kind (Excluded s) a b x y = end_one signed_end unsigned_end kind false s a b x y
ends_one kind Unbounded a b x y = x ∙ sym y

some_one : (o : Option TermValue) (v w : TermValue) → o ≡ Some v → o ≡ Some w → v ≡ w
some_one o v w x y = let same : ◌≡◌ {A = Option TermValue} (Some v) (Some w) = sym x ∙ y in cc

values_one : (l : Bound Leaf) (a b : Bound TermValue) → AreBoundValues l a → AreBoundValues l b → a ≡ b
values_one (Included l) (Included v) (Included w) x y = ap Included (some_one (leaf_value l) v w x y)
values_one (Excluded l) (Excluded v) (Excluded w) x y = ap Excluded (some_one (leaf_value l) v w x y)
values_one Unbounded Unbounded Unbounded x y = refl
values_one (Included l) (Included v) (Excluded w) x y = absurd y
values_one (Included l) (Included v) Unbounded x y = absurd y
values_one (Included l) (Excluded v) b x y = absurd x
values_one (Included l) Unbounded b x y = absurd x
values_one (Excluded l) (Excluded v) (Included w) x y = absurd y
values_one (Excluded l) (Excluded v) Unbounded x y = absurd y
values_one (Excluded l) (Included v) b x y = absurd x
values_one (Excluded l) Unbounded b x y = absurd x
values_one Unbounded (Included v) b x y = absurd x
values_one Unbounded (Excluded v) b x y = absurd x
values_one Unbounded Unbounded (Included w) x y = absurd y
values_one Unbounded Unbounded (Excluded w) x y = absurd y

ranges_of_one : (field : Field) (path : List ℕ) (kind : JsonKind) (start end : Option (Bound Leaf)) (a b : List TermRange) → AreRangesOf field path kind start end a → AreRangesOf field path kind start end b → FindSame a b
ranges_of_one field path kind (Some start) (Some end) a b x y =
    let between = λ (lo hi : Bound TermValue). HasTerms (IsBetweenAt field.id path (type_of_kind kind) lo hi) in
    find_one x.4 y.4 a b x.5 y.5
    (has_same (IsBetweenAt field.id path (type_of_kind kind) x.0 x.1) x.4 y.4 x.6
    (subst (λ (hi : Bound TermValue). between x.0 hi y.4) (values_one end y.1 x.1 y.3 x.3) (subst (λ (lo : Bound TermValue). between lo y.1 y.4) (values_one start y.0 x.0 y.2 x.2) y.6)))
ranges_of_one field path kind None end a b x y = find_itself a b (x ∙ sym y)
ranges_of_one field path kind (Some start) None a b x y = find_itself a b (x ∙ sym y)

kind_one : (field : Field) (path : List ℕ) (start end : Bound (List ℕ)) (kind : JsonKind) (a b : List TermRange) → AreOfKind field path start end kind a → AreOfKind field path start end kind b → FindSame a b
kind_one field path start end kind a b x y =
    ranges_of_one field path kind x.0 x.1 a b x.4
    (subst (λ (o : Option (Bound Leaf)). AreRangesOf field path kind x.0 o b) (ends_one kind end y.1 x.1 y.3 x.3) (subst (λ (o : Option (Bound Leaf)). AreRangesOf field path kind o y.1 b) (starts_one kind start y.0 x.0 y.2 x.2) y.4))

pub backwards_one : (a b : Option (List ℕ)) (x y : Bool) → RunBackwards a b x → RunBackwards a b y → x ≡ y
backwards_one (Some s) (Some t) x y v w =
    v.4 ∙ ap (λ n. told_or (above n v.1) (told_or (above (date_written_in (rfc s)) (date_written_in (rfc t))) (told_or (above (truth_in s) (truth_in t)) (is_lt (slice_cmp nat_cmp t s))))) (number_one s v.0 w.0 v.2 w.2)
    ∙ ap (λ n. told_or (above w.0 n) (told_or (above (date_written_in (rfc s)) (date_written_in (rfc t))) (told_or (above (truth_in s) (truth_in t)) (is_lt (slice_cmp nat_cmp t s))))) (number_one t v.1 w.1 v.3 w.3) ∙ sym w.4
backwards_one None b x y v w = v ∙ sym w
backwards_one (Some s) None x y v w = v ∙ sym w

ranges_at_one : (field : Field) (path : List ℕ) (start end : Bound (List ℕ)) (a b : RangesAnswer) → RangesAt field path start end a → RangesAt field path start end b → Agree SaySame FindSame a b
ranges_at_one field path start end (Ok ranges) (Ok others) x y =
    let v = x.1 in
    let w = y.1 in
    rw (v.all, w.all)
    (find_both v.dates w.dates _ _ (kind_one field path start end kinds.Date v.dates w.dates v.are_dates w.are_dates)
    (find_both v.signed w.signed _ _ (kind_one field path start end kinds.Signed v.signed w.signed v.are_signed w.are_signed)
    (find_both v.truths w.truths _ _ (kind_one field path start end kinds.Truth v.truths w.truths v.are_truths w.are_truths)
    (find_both v.texts w.texts v.unsigned w.unsigned (kind_one field path start end kinds.Text v.texts w.texts v.are_texts w.are_texts)
    (kind_one field path start end kinds.Unsigned v.unsigned w.unsigned v.are_unsigned w.are_unsigned)))))
ranges_at_one field path start end (Ok ranges) (Err f) x y = let e : false ≡ true = backwards_one (bounding start) (bounding end) false true x.0 y.0 in absurd (cc)
ranges_at_one field path start end (Err e) (Ok others) x y = let e : false ≡ true = backwards_one (bounding start) (bounding end) false true y.0 x.0 in absurd (cc)
ranges_at_one field path start end (Err e) (Err f) x y = rw (x.1, y.1) refl

pub ranges_one : (at : FoundField) (start end : Bound (List ℕ)) (a b : RangesAnswer) → RangesInField at start end a → RangesInField at start end b → Agree SaySame FindSame a b
ranges_one at start end a b x y =
    typed_one FindSame at.type (λ d. RangesBelow at.field d at.rest start end) (OneRange at.field at.type start end) a b
    (λ d v w. below_one FindSame (RangesAt at.field (joined_path d at.rest) start end) at.field at.rest a b (ranges_at_one at.field (joined_path d at.rest) start end a b) v w)
    (listed_one at.field at.type start end a b) x y

-- ---- one range

pub single_one : (at : FoundField) (start end : Bound (List ℕ)) (a b : RangeAnswer) → RangeInField at start end a → RangeInField at start end b → Agree SaySame HaveSame a b
single_one at start end a b x y =
    typed_one HaveSame at.type (λ d answer. answer ≡ Err (errors.NoRange at.field)) (RangeOfTexts at.field at.type start end) a b (λ d v w. no_range at.field a b v w) (range_one at.field at.type start end a b) x y

pub below_range_one : (at : FoundField) (s : List ℕ) (a b : RangeAnswer) → BelowInField at s a → BelowInField at s b → Agree SaySame HaveSame a b
below_range_one at s a b x y =
    typed_one HaveSame at.type (λ d answer. answer ≡ Err (errors.NoRange at.field)) (RangeWithBelow at.field at.type s) a b (λ d v w. no_range at.field a b v w) (with_below_one at.field at.type s a b) x y

-- ---- the bounds that a text writes

start_by : (w v : Bool) (inner also : List ℕ) → opening_bracket w ++ inner ≡ opening_bracket v ++ also → (w ≡ v) × (inner ≡ also)
start_by true true inner also e = (refl, cc)
start_by false false inner also e = (refl, cc)
start_by true false inner also e = let n : 91 ≡ 123 = ap (λ (l : List ℕ). get_or l 0 0) e in absurd (omega (arith, n))
start_by false true inner also e = let n : 123 ≡ 91 = ap (λ (l : List ℕ). get_or l 0 0) e in absurd (omega (arith, n))

end_by : (w v : Bool) (inner also : List ℕ) → inner ++ closing_bracket w ≡ also ++ closing_bracket v → (w ≡ v) × (inner ≡ also)
end_by true true inner also e = (refl, (same_from_push inner also 93 93 e).0)
end_by false false inner also e = (refl, (same_from_push inner also 125 125 e).0)
end_by true false inner also e = let n : 93 ≡ 125 = (same_from_push inner also 93 125 e).1 in absurd (omega (arith, n))
end_by false true inner also e = let n : 125 ≡ 93 = (same_from_push inner also 125 93 e).1 in absurd (omega (arith, n))

start_bound_one : (s : List ℕ) (a b : Bound (List ℕ)) → IsStartBound s a → IsStartBound s b → a ≡ b
start_bound_one s a b x y =
    let same = start_by x.0 y.0 x.1 y.1 (sym x.2 ∙ y.2) in
    x.3 ∙ ap (λ w. bound_of w x.1) same.0 ∙ ap (bound_of y.0) same.1 ∙ sym y.3

end_bound_one : (s : List ℕ) (a b : Bound (List ℕ)) → IsEndBound s a → IsEndBound s b → a ≡ b
end_bound_one s a b x y =
    let same = end_by x.0 y.0 x.1 y.1 (sym x.2 ∙ y.2) in
    x.3 ∙ ap (λ w. bound_of w x.1) same.0 ∙ ap (bound_of y.0) same.1 ∙ sym y.3

no_star : (text : List ℕ) (start end : Bound (List ℕ)) → text ≡ codes "*" → ArePartedBounds text start end → ⊥
no_star text start end is p =
    omega (arith, ap length (sym is ∙ p.text_is), length-append p.before (codes " TO " ++ p.behind), length-append (codes " TO ") p.behind)

pub bounds_one : (text : List ℕ) (a b c d : Bound (List ℕ)) → WritesBounds text a b → WritesBounds text c d → (a ≡ c) × (b ≡ d)
bounds_one text a b c d (no_bounds is x y) (no_bounds also v w) = (x ∙ sym v, y ∙ sym w)
bounds_one text a b c d (no_bounds is x y) (bounds q) = absurd (no_star text c d is q)
bounds_one text a b c d (bounds p) (no_bounds is v w) = absurd (no_star text a b is p)
bounds_one text a b c d (bounds p) (bounds q) =
    let whole : p.before ++ (codes " TO " ++ p.behind) ≡ q.before ++ (codes " TO " ++ q.behind) = sym p.text_is ∙ q.text_is in
    let lengths : length p.before ≡ length q.before = omega (arith, p.is_first q.before q.behind q.text_is, q.is_first p.before p.behind p.text_is) in
    let front : p.before ≡ q.before = same_prefix p.before q.before (codes " TO " ++ p.behind) (codes " TO " ++ q.behind) lengths whole in
    let after = append_cancel_left q.before (codes " TO " ++ p.behind) (codes " TO " ++ q.behind) (sym (ap (λ (l : List ℕ). l ++ (codes " TO " ++ p.behind)) front) ∙ whole) in
    let back : p.behind ≡ q.behind = append_cancel_left (codes " TO ") p.behind q.behind after in
    (start_bound_one q.before a c (subst (λ (s : List ℕ). IsStartBound s a) front p.starts) q.starts, end_bound_one q.behind b d (subst (λ (s : List ℕ). IsEndBound s b) back p.ends) q.ends)

pub wrong_range_is : (s : List ℕ) (e : TextTermsError) → IsWrongRange s e → (start : _) × (e ≡ errors.WrongRange start) × (string_bytes start ≡ take_chars 40 s)
wrong_range_is s (errors.WrongRange start) h = (start, refl, h)
wrong_range_is s (errors.UnknownPath start) h = absurd h
wrong_range_is s (errors.NotIndexed f) h = absurd h
wrong_range_is s (errors.PathEnds f) h = absurd h
wrong_range_is s (errors.NulInPath f) h = absurd h
wrong_range_is s (errors.WrongText f t w start) h = absurd h
wrong_range_is s (errors.Backwards f) h = absurd h
wrong_range_is s (errors.NoRange f) h = absurd h
wrong_range_is s errors.Memory h = absurd h

wrong_range_one : (s : List ℕ) (e f : TextTermsError) → IsWrongRange s e → IsWrongRange s f → SaySame e f
wrong_range_one s e f x y = let a = wrong_range_is s e x in let b = wrong_range_is s f y in rw (a.1, b.1) (a.2 ∙ sym b.2)

-- what a text has that writes the bounds itself
pub in_bounds_one : {T : Type 0} (Same : T → T → Type 0) (Answers : Bound (List ℕ) → Bound (List ℕ) → Result T TextTermsError → Type 0) (s : List ℕ) (a b : Result T TextTermsError)
    → ((start end : Bound (List ℕ)) → Answers start end a → Answers start end b → Agree SaySame Same a b) → InWrittenBounds Answers s a → InWrittenBounds Answers s b → Agree SaySame Same a b
in_bounds_one Same Answers s a b one (no_bounds_written none e x is) (no_bounds_written also f y be) = rw (is, be) (wrong_range_one s e f x y)
in_bounds_one Same Answers s a b one (no_bounds_written none e x is) (bounds_written start end writes y) = absurd (none start end writes)
in_bounds_one Same Answers s a b one (bounds_written start end writes x) (no_bounds_written none f y is) = absurd (none start end writes)
in_bounds_one Same Answers s a b one (bounds_written start end writes x) (bounds_written c d also y) =
    let same = bounds_one s c d start end also writes in
    one start end x (subst (λ (e : Bound (List ℕ)). Answers start e b) same.1 (subst (λ (c : Bound (List ℕ)). Answers c d b) same.0 y))

pub ranges_of_text_one : (at : FoundField) (s : List ℕ) (a b : RangesAnswer) → RangesOfText at s a → RangesOfText at s b → Agree SaySame FindSame a b
ranges_of_text_one at s a b x y = in_bounds_one FindSame (RangesInField at) s a b (λ start end. ranges_one at start end a b) x y
