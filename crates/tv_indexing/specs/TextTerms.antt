-- The terms of a text of a query: those that a document has which holds a value that the text writes.
--
-- The words of the public contract: `AnswersText`: what a text at a path has in a schema. A path that names
-- no field is refused, and so is a field that isn't indexed. In a field of a plain type the text is the value
-- that it is in JSON to such a field that coerces, and has that value's term; or it is refused for the reason
-- that JSON is. In a field of JSON objects, at a path below it, it writes itself as a text, and also a
-- number, a truth value and a date, each where it is the text of one, and has the term of each there.
use Rattle.std.specs.Prelude.{◌≡◌, ◌≢◌, ◌++◌, ℕ, ℤ, List, [], ◌∷◌, Bool, Option, Some, None, IfSome, Result}
use Rattle.std.specs.Prelude.{Ok, Err}
use Rattle.std.specs.List.{AllByRecursion}
use Rattle.std.specs.Str.Parse.{digits_value, signed_digits_value, without_leading_plus}
use Rattle.tv_base.specs.JsonPath.{joined_path}
use Rattle.tv_date.specs.Rfc3339.{rfc}
use Rattle.tv_date.specs.declared.rfc3339.DateError.{DateError}
use Rattle.tv_field.specs.Entry.{Entry, value_type}
use Rattle.tv_field.specs.JsonAnswer.{RefusesText, WritesValue}
use Rattle.tv_field.specs.JsonTable.{IsSignedText, IsUnsignedText, truth_in}
use Rattle.tv_field.specs.declared.field_type.FieldType.{FieldType}
use Rattle.tv_field.specs.declared.json_value.JsonRefusal.{JsonRefusal}
use Rattle.tv_field.specs.declared.json_value.JsonRefusal.TheVariants.{Memory as NoMemory}
use Rattle.tv_options.specs.declared.types.TypeTag.{TypeTag}
use Rattle.tv_format.specs.Tree.{Leaf, text, unsigned, signed, date}
use Rattle.tv_indexing.specs.DocumentTerms.{Terms, followed_by, json_leaf_terms, plain_terms}
use Rattle.tv_indexing.specs.IndexedField.{AtPath, BelowJson, FoundField, IsStartOf, JsonOrPlain}
use Rattle.tv_indexing.specs.LeafTerms.{json_value, leaf_value}
use Rattle.tv_indexing.specs.declared.text_terms_error.TextTermsError.{TextTermsError}
use Rattle.tv_indexing.specs.declared.text_terms_error.TextTermsError.TheVariants.{WrongText, WrongRange}
use Rattle.tv_term.specs.Key.{Fits}
use Rattle.tv_value.specs.declared.field.Field.{Field}

-- ---- the values that a text writes in a JSON value

abbrev pub listed : {A : Type 0} → Option A → List A
listed None = []
listed (Some leaf) = leaf ∷ []

-- a number that fits a signed one of 64 bits is one; else it is one without a sign, if it fits that
abbrev pub WritesNumber : List ℕ → Option Leaf → Type 0
WritesNumber written None = (¬ IsSignedText written) × (¬ IsUnsignedText written)
WritesNumber written (Some (signed number)) = IsSignedText written × (number ≡ signed_digits_value 10 written)
WritesNumber written (Some (unsigned number)) = (¬ IsSignedText written) × IsUnsignedText written
    × (number ≡ digits_value 10 (without_leading_plus written))
WritesNumber written (Some leaf) = ⊥

abbrev pub date_written_in : Result ℤ DateError → Option Leaf
date_written_in (Ok number) = Some (date number)
date_written_in (Err error) = None

-- itself, and the number, the truth value and the date that it also writes
abbrev pub WritesLeaves : List ℕ → List Leaf → Type 0
WritesLeaves written leaves = (number : Option Leaf) × WritesNumber written number
    × (leaves ≡ text written ∷ (listed number
    ++ (listed (truth_in written) ++ listed (date_written_in (rfc written)))))

-- the terms of values at one path
abbrev pub leaves_terms : Field → List ℕ → List Leaf → Terms
leaves_terms field path [] = Ok []
leaves_terms field path (leaf ∷ leaves) = followed_by (json_leaf_terms field path leaf)
    (leaves_terms field path leaves)

-- ---- what a text has

-- the error for such a text; want of memory is no reason of a text
abbrev pub IsWrongText : Field → TypeTag → JsonRefusal → List ℕ → TextTermsError → Type 0
IsWrongText field type why written (WrongText other wanted reason start) =
    (other ≡ field) × (wanted ≡ type) × (reason ≡ why) × (why ≢ NoMemory) × IsStartOf written start
IsWrongText field type why written error = ⊥

abbrev pub IsWrongRange : List ℕ → TextTermsError → Type 0
IsWrongRange written (WrongRange start) = IsStartOf written start
IsWrongRange written error = ⊥

abbrev pub TermsAnswer : Type 0
TermsAnswer = Result (List (List ℕ)) TextTermsError

-- the terms of all that a text writes at a joined path
abbrev pub WritesTerms : Field → List ℕ → List ℕ → TermsAnswer → Type 0
WritesTerms field path written (Ok made) = (leaves : List Leaf) × WritesLeaves written leaves
    × AllByRecursion (λ leaf. IfSome (json_value leaf) Fits) leaves
    × (leaves_terms field path leaves ≡ Ok made)
WritesTerms field path written (Err error) = ⊥

abbrev pub TermsBelow : Field → Bool → List ℕ → List ℕ → TermsAnswer → Type 0
TermsBelow field expand_dots path written answer =
    BelowJson (WritesTerms field (joined_path expand_dots path) written)
    field path answer

abbrev pub TermOfText : Field → FieldType → List ℕ → TermsAnswer → Type 0
TermOfText field type written (Ok made) = (leaf : Leaf) × WritesValue type written leaf
    × IfSome (leaf_value leaf) Fits
    × (plain_terms field (value_type type) (leaf_value leaf) ≡ Ok made)
TermOfText field type written (Err error) = (why : JsonRefusal) × RefusesText type written why
    × IsWrongText field (value_type type) why written error

abbrev pub TermsInField : FoundField → List ℕ → TermsAnswer → Type 0
TermsInField at written answer = JsonOrPlain at.type
    (λ expand_dots. TermsBelow at.field expand_dots at.rest written
    answer) (TermOfText at.field at.type written answer)

abbrev pub AnswersText : List Entry → List ℕ → List ℕ → TermsAnswer → Type 0
AnswersText schema path written answer = AtPath (λ at. TermsInField at written) schema path answer

-- terms that are such an answer are appended, or such an error is the answer
abbrev pub AppendsAnswer : (TermsAnswer → Type 0) → List (List ℕ) → List (List ℕ)
    → Result (Unit {0}) TextTermsError → Type 0
AppendsAnswer Answers old new (Ok done) = (made : List (List ℕ)) × Answers (Ok made) × (new ≡ old ++ made)
AppendsAnswer Answers old new (Err error) = Answers (Err error)
