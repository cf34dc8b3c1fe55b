-- When two answers to one question of a query agree.
--
-- The words of the laws:
-- `Agree`: both answers have values that are the same in what counts, or both are errors that say the same.
-- `SaySame`: the errors are of one kind, and of the same field, type and text.
-- `HaveSame`, `FindSame`: the ranges have the same terms; so do the lists of ranges.
use Rattle.std.specs.Prelude.{◌≡◌, ◌↔◌, ℕ, List, Result, Ok, Err, string_bytes}
use Rattle.serde_json.specs.Data as json
use Rattle.std.specs.List.{Any}
use Rattle.tv_base.specs.Source.{AllBytes}
use Rattle.tv_field.specs.JsonAnswer.{refusal_of}
use Rattle.tv_indexing.specs.declared.text_terms_error.TextTermsError.{TextTermsError}
use Rattle.tv_indexing.specs.declared.text_terms_error.TextTermsError.TheVariants.{UnknownPath, WrongRange}
use Rattle.tv_indexing.specs.declared.text_terms_error.TextTermsError.TheVariants.{WrongText}
use Rattle.tv_term.specs.Key.{IsTerm, TermValue}
use Rattle.tv_term.specs.Range.{IsIn}
use Rattle.tv_term.specs.declared.range.TermRange.{TermRange}

-- refusals of a value say the same of a text
abbrev pub SaySame : TextTermsError → TextTermsError → Type 0
SaySame (UnknownPath start) (UnknownPath other) = string_bytes start ≡ string_bytes other
SaySame (WrongText field type why start) (WrongText also wanted reason other) =
    (field ≡ also) × (type ≡ wanted) × ((text : List ℕ) × (refusal_of (json.string text) why
    ≡ refusal_of (json.string text) reason)) × (string_bytes start ≡ string_bytes other)
SaySame (WrongRange start) (WrongRange other) = string_bytes start ≡ string_bytes other
SaySame error other = error ≡ other

abbrev pub Agree : {T E : Type 0} → (E → E → Type 0) → (T → T → Type 0) → Result T E → Result T E → Type 0
Agree Say Same (Ok one) (Ok other) = Same one other
Agree Say Same (Err error) (Err other) = Say error other
Agree Say Same one other = ⊥

-- one of the ranges has the term
abbrev pub IsInOne : List TermRange → List ℕ → Type 0
IsInOne ranges term = Any (λ range. IsIn range term) ranges

-- the bytes are a term of a field
abbrev pub IsSomeTerm : List ℕ → Type 0
IsSomeTerm term = AllBytes term × (field : ℕ) × (value : TermValue) × IsTerm term field value

abbrev pub HaveSame : TermRange → TermRange → Type 0
HaveSame range other = (term : List ℕ) → IsSomeTerm term → IsIn range term ↔ IsIn other term

abbrev pub FindSame : List TermRange → List TermRange → Type 0
FindSame ranges others = (term : List ℕ) → IsSomeTerm term → IsInOne ranges term ↔ IsInOne others term
