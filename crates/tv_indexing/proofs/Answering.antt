-- Calls that answer as others do.
use Rattle.std.proofs.Common.{◌≡◌, ◌≢◌, Bool, List, ℕ, true, Result, Ok, Err, refl, sym, ap, subst}
use Rattle.tv_field.specs.Entry.{Entry, is_indexed_type}
use Rattle.tv_field.specs.declared.field_type.FieldType.{FieldType}
use Rattle.tv_field.specs.declared.field_type.FieldType.TheVariants as types
use Rattle.tv_indexing.specs.IndexedField.{AtPathAs, FindsField, FoundField, JsonOrPlain, Names, indexed, refused}
use Rattle.tv_indexing.specs.TextTerms.{AppendsAnswer, TermsAnswer}
use Rattle.tv_indexing.specs.Tells.{UnlessFirst}
use Rattle.tv_indexing.specs.Unless.{Unless}
use Rattle.tv_indexing.specs.declared.text_terms_error.TextTermsError.{TextTermsError}
use Rattle.tv_options.specs.declared.own_part.DotExpansion.{DotExpansion}
use Rattle.tv_options.specs.declared.textual_options.TextualOptions.{TextualOptions}

-- ---- an answer of one kind is one of another kind, too

-- a call that may be refused memory before it has found these reasons
pub first_told : {T E : Type 0} (memory : E) (Takes : E → Type 0) (P Q : Result T E → Type 0) (result : Result T E) → ((answer : Result T E) → P answer → Q answer) → (result ≡ Err memory → (why : E) → Q (Err why) → Takes why)
    → Unless memory P result → UnlessFirst memory Takes Q result
first_told memory Takes P Q (Ok made) h takes answers = h (Ok made) answers
first_told memory Takes P Q (Err e) h takes answers = (λ some. h (Err e) (answers some), λ is. takes (ap Err is))

pub first-weaker : {T E : Type 0} (memory : E) (Takes May : E → Type 0) (P Q : Result T E → Type 0) (result : Result T E) → ((answer : Result T E) → P answer → Q answer)
    → (((why : E) → P (Err why) → Takes why) → (why : E) → Q (Err why) → May why) → UnlessFirst memory Takes P result → UnlessFirst memory May Q result
first-weaker memory Takes May P Q (Ok made) h takes answers = h (Ok made) answers
first-weaker memory Takes May P Q (Err e) h takes answers = (λ some. h (Err e) (answers.0 some), λ is. takes (answers.1 is))

pub appends : (P Q : TermsAnswer → Type 0) (old new : List (List ℕ)) → ((answer : TermsAnswer) → P answer → Q answer) → (result : Result (Unit {0}) TextTermsError) → AppendsAnswer P old new result → AppendsAnswer Q old new result
appends P Q old new h (Ok done) answers = (answers.0, h (Ok answers.0) answers.1, answers.2)
appends P Q old new h (Err e) answers = h (Err e) answers

-- ---- by the field's type

pub plain : (type : FieldType) (Json : Bool → Type 0) (Plain : Type 0) → ((options : TextualOptions DotExpansion) → type ≢ types.JsonObject options) → Plain → JsonOrPlain type Json Plain
plain (types.Str options) Json Plain not_json h = h
plain (types.U64 options) Json Plain not_json h = h
plain (types.I64 options) Json Plain not_json h = h
plain (types.Bool options) Json Plain not_json h = h
plain (types.Date options) Json Plain not_json h = h
plain (types.Facet options) Json Plain not_json h = h
plain (types.Bytes options) Json Plain not_json h = h
plain (types.IpAddr options) Json Plain not_json h = h
plain (types.JsonObject options) Json Plain not_json h = absurd (not_json options refl)

pub of_json : (type : FieldType) (options : TextualOptions DotExpansion) (Json : Bool → Type 0) (Plain : Type 0) → type ≡ types.JsonObject options → Json options.part.expand_dots_enabled → JsonOrPlain type Json Plain
of_json type options Json Plain is h = subst (λ (t : FieldType). JsonOrPlain t Json Plain) (sym is) h

-- ---- at what a path names

module _ {T E : Type 0} (error : TextTermsError → E) (Answers : FoundField → Result T E → Type 0) (schema : List Entry) (path : List ℕ) where
  -- what there is in the field that was found
  pub in_found : (at : FoundField) (answer : Result T E) → FindsField schema path (Ok at) → Answers at answer → AtPathAs error Answers schema path answer
  in_found at answer (refused e refuses is) answers = absurd (cc)
  in_found at answer (indexed found names is_indexed is) answers =
      let same : found ≡ at = cc in
      indexed at (subst (Names schema path) same names) (subst (λ (f : FoundField). is_indexed_type f.type ≡ true) same is_indexed) answers

  -- the path is refused
  pub path_refused : (e : TextTermsError) → FindsField schema path (Err e) → AtPathAs error Answers schema path (Err (error e))
  path_refused e (refused why refuses is) = let same : e ≡ why = cc in refused why refuses (ap (λ (x : TextTermsError). Err (error x)) same)
  path_refused e (indexed found names is_indexed is) = absurd (cc)
