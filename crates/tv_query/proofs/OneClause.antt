-- A clause has one answer: two that the definitions allow agree.
use Rattle.std.proofs.Common.{◌≡◌, ◌⊎◌, ℕ, Bool, true, false, List, [], ◌∷◌, MatchBool, Result, Ok, Err, refl, sym, subst, ap, ◌∙◌, inl, inr}
use Rattle.std.specs.List.{Any}
use Rattle.serde_json.specs.Data as json
use Rattle.tv_field.specs.Entry.{Entry}
use Rattle.tv_indexing.specs.Agree.{Agree, FindSame, SaySame}
use Rattle.tv_indexing.specs.IndexedField.{FoundField}
use Rattle.tv_indexing.specs.TextRange.{BelowInField}
use Rattle.tv_indexing.specs.TextTerms.{TermsInField}
use Rattle.tv_indexing.specs.declared.text_terms_error.TextTermsError.{TextTermsError}
use Rattle.tv_indexing.specs.declared.text_terms_error.TextTermsError.TheVariants as texts
use Rattle.tv_indexing.proofs.OneAnswer.{at_path_one, terms_one}
use Rattle.tv_indexing.proofs.OneRange.{below_range_one, find_itself, find_one, ranges_of_text_one}
use Rattle.tv_query.specs.SameQuery.{SaySameReason, SelectSame}
use Rattle.tv_query.specs.Selections.{AnswersClause, AnswersInField, AreOfFirst, RefusesInField, WantsInField, has_prefixes, is_of_facets}
use Rattle.tv_query.specs.Tokens.{WantedText, of_prefix, of_range, of_text}
use Rattle.tv_query.specs.declared.query_error.QueryReason.{QueryReason}
use Rattle.tv_query.specs.declared.query_error.QueryReason.TheVariants.{Clause}
use Rattle.tv_query.specs.declared.query_error.QueryReason.TheVariants as reasons
use Rattle.tv_query.specs.declared.selection.Selection.{Selection}
use Rattle.tv_query.proofs.OneQuery.{wants_or_refuses}
use Rattle.tv_term.specs.Range.{HasPrefixed}
use Rattle.tv_term.specs.declared.range.TermRange.{TermRange}

-- ---- reasons

says_itself : (e : TextTermsError) → SaySame e e
says_itself (texts.UnknownPath start) = refl
says_itself (texts.NotIndexed field) = refl
says_itself (texts.PathEnds field) = refl
says_itself (texts.NulInPath field) = refl
says_itself (texts.WrongText field type why start) = (refl, refl, ([], refl), refl)
says_itself (texts.WrongRange start) = refl
says_itself (texts.Backwards field) = refl
says_itself (texts.NoRange field) = refl
says_itself texts.Memory = refl

itself : (reason : QueryReason) → SaySameReason reason reason
itself (Clause e) = says_itself e
itself reasons.NoOperand = refl
itself reasons.NoOperator = refl
itself reasons.Unopened = refl
itself reasons.Unclosed = refl
itself reasons.NoColon = refl
itself reasons.NoPath = refl
itself reasons.NoText = refl
itself reasons.Unended = refl
itself reasons.NoPrefix = refl
itself reasons.Memory = refl

pub same_reason : (a b : QueryReason) → a ≡ b → SaySameReason a b
same_reason a b is = subst (SaySameReason a) is (itself a)

-- ---- what a clause wants in its field

find_prefixed : (a b : List TermRange) (first : List ℕ) (x : (range : TermRange) × (a ≡ range ∷ []) × HasPrefixed first range) (y : (range : TermRange) × (b ≡ range ∷ []) × HasPrefixed first range) → FindSame a b
find_prefixed a b first x y = find_one x.0 y.0 a b x.1 y.1 (λ term some. (λ is. (y.2 term some.0).1 ((x.2 term some.0).0 is), λ is. (x.2 term some.0).1 ((y.2 term some.0).0 is)))

first_one : (terms also : List (List ℕ)) (a b : List TermRange) → terms ≡ also → AreOfFirst terms a → AreOfFirst also b → FindSame a b
first_one [] [] a b is x y = find_itself a b (x ∙ sym y)
first_one (t ∷ ts) (u ∷ us) a b is x y = let first : u ≡ t = cc in find_prefixed a b t x (subst (λ (f : List ℕ). (range : TermRange) × (b ≡ range ∷ []) × HasPrefixed f range) first y)
first_one [] (u ∷ us) a b is x y = absurd (cc)
first_one (t ∷ ts) [] a b is x y = absurd (cc)

abbrev WantSame : Selection → Selection → Type 0
WantSame a b = (a.exact ≡ b.exact) × FindSame a.ranges.items b.ranges.items

text_one : (at : FoundField) (s : List ℕ) (a b : Selection) (facets : Bool)
    → MatchBool facets ((a.exact ≡ []) × (range : TermRange) × (a.ranges.items ≡ range ∷ []) × BelowInField at s (Ok range)) (TermsInField at s (Ok a.exact) × (a.ranges.items ≡ []))
    → MatchBool facets ((b.exact ≡ []) × (range : TermRange) × (b.ranges.items ≡ range ∷ []) × BelowInField at s (Ok range)) (TermsInField at s (Ok b.exact) × (b.ranges.items ≡ [])) → WantSame a b
text_one at s a b true x y = (x.0 ∙ sym y.0, find_one x.1 y.1 a.ranges.items b.ranges.items x.2 y.2 (below_range_one at s (Ok x.1) (Ok y.1) x.3 y.3))
text_one at s a b false x y = (terms_one at s (Ok a.exact) (Ok b.exact) x.0 y.0, find_itself a.ranges.items b.ranges.items (x.1 ∙ sym y.1))

wants_one : (at : FoundField) (wanted : WantedText) (a b : Selection) → WantsInField at wanted a → WantsInField at wanted b → WantSame a b
wants_one at (of_text s) a b x y = text_one at s a b (is_of_facets at.type) x y
wants_one at (of_prefix s) a b x y = (x.1 ∙ sym y.1, first_one x.2 y.2 a.ranges.items b.ranges.items (terms_one at s (Ok x.2) (Ok y.2) x.3 y.3) x.4 y.4)
wants_one at (of_range s) a b x y = (x.0 ∙ sym y.0, ranges_of_text_one at s (Ok a.ranges.items) (Ok b.ranges.items) x.1 y.1)

-- ---- why it is refused there

abbrev ReasonIs : FoundField → WantedText → QueryReason → Type 0
ReasonIs at wanted why = ((e : TextTermsError) × (why ≡ Clause e) × RefusesInField at wanted (Clause e)) ⊎ ((why ≡ reasons.NoPrefix) × RefusesInField at wanted reasons.NoPrefix)

reason_is : (at : FoundField) (wanted : WantedText) (why : QueryReason) → RefusesInField at wanted why → ReasonIs at wanted why
reason_is at wanted (Clause e) h = inl (e, refl, h)
reason_is at (of_prefix s) reasons.NoPrefix h = inr (refl, h)
reason_is at (of_text s) reasons.NoOperand h = absurd h
reason_is at (of_text s) reasons.NoOperator h = absurd h
reason_is at (of_text s) reasons.Unopened h = absurd h
reason_is at (of_text s) reasons.Unclosed h = absurd h
reason_is at (of_text s) reasons.NoColon h = absurd h
reason_is at (of_text s) reasons.NoPath h = absurd h
reason_is at (of_text s) reasons.NoText h = absurd h
reason_is at (of_text s) reasons.Unended h = absurd h
reason_is at (of_text s) reasons.NoPrefix h = absurd h
reason_is at (of_text s) reasons.Memory h = absurd h
reason_is at (of_prefix s) reasons.NoOperand h = absurd h
reason_is at (of_prefix s) reasons.NoOperator h = absurd h
reason_is at (of_prefix s) reasons.Unopened h = absurd h
reason_is at (of_prefix s) reasons.Unclosed h = absurd h
reason_is at (of_prefix s) reasons.NoColon h = absurd h
reason_is at (of_prefix s) reasons.NoPath h = absurd h
reason_is at (of_prefix s) reasons.NoText h = absurd h
reason_is at (of_prefix s) reasons.Unended h = absurd h
reason_is at (of_prefix s) reasons.Memory h = absurd h
reason_is at (of_range s) reasons.NoOperand h = absurd h
reason_is at (of_range s) reasons.NoOperator h = absurd h
reason_is at (of_range s) reasons.Unopened h = absurd h
reason_is at (of_range s) reasons.Unclosed h = absurd h
reason_is at (of_range s) reasons.NoColon h = absurd h
reason_is at (of_range s) reasons.NoPath h = absurd h
reason_is at (of_range s) reasons.NoText h = absurd h
reason_is at (of_range s) reasons.Unended h = absurd h
reason_is at (of_range s) reasons.NoPrefix h = absurd h
reason_is at (of_range s) reasons.Memory h = absurd h

error_one : (at : FoundField) (wanted : WantedText) (e f : TextTermsError) → RefusesInField at wanted (Clause e) → RefusesInField at wanted (Clause f) → SaySame e f
error_one at (of_text s) e f x y = terms_one at s (Err e) (Err f) x y
error_one at (of_prefix s) e f x y = terms_one at s (Err e) (Err f) x.1 y.1
error_one at (of_range s) e f x y = ranges_of_text_one at s (Err e) (Err f) x y

no_prefix : (at : FoundField) (wanted : WantedText) (e : TextTermsError) → RefusesInField at wanted (Clause e) → RefusesInField at wanted reasons.NoPrefix → ⊥
no_prefix at (of_text s) e x y = y
no_prefix at (of_prefix s) e x y = let both : true ≡ false = sym x.0 ∙ y in absurd (cc)
no_prefix at (of_range s) e x y = y

refused_by : (at : FoundField) (wanted : WantedText) (a b : QueryReason) → ReasonIs at wanted a → ReasonIs at wanted b → SaySameReason a b
refused_by at wanted a b (inl x) (inl y) = rw (x.1, y.1) (error_one at wanted x.0 y.0 x.2 y.2)
refused_by at wanted a b (inl x) (inr y) = absurd (no_prefix at wanted x.0 x.2 y.1)
refused_by at wanted a b (inr x) (inl y) = absurd (no_prefix at wanted y.0 y.2 x.1)
refused_by at wanted a b (inr x) (inr y) = rw (x.0, y.0) refl

-- ---- what it has at its path

in_field_one : (at : FoundField) (wanted : WantedText) (a b : Result Selection QueryReason) → AnswersInField at wanted a → AnswersInField at wanted b → Agree SaySameReason SelectSame a b
in_field_one at wanted (Ok a) (Ok b) x y = let same = wants_one at wanted a b x.1 y.1 in (x.0 ∙ sym y.0, same.0, same.1)
in_field_one at wanted (Ok a) (Err why) x y = wants_or_refuses at wanted a why x.1 y
in_field_one at wanted (Err why) (Ok b) x y = wants_or_refuses at wanted b why y.1 x
in_field_one at wanted (Err a) (Err b) x y = refused_by at wanted a b (reason_is at wanted a x) (reason_is at wanted b y)

pub clause_one : (schema : List Entry) (path : List ℕ) (wanted : WantedText) (a b : Result Selection QueryReason) → AnswersClause schema path wanted a → AnswersClause schema path wanted b → Agree SaySameReason SelectSame a b
clause_one schema path wanted a b x y = at_path_one Clause SaySameReason SelectSame (λ e f same. same) (λ at. AnswersInField at wanted) schema path a b (λ at v w. in_field_one at wanted a b v w) x y
