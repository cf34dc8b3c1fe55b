use Rattle.std.proofs.Common.{◌≡◌, IfErr, Result, Ok, Err, subst, sym, ap, ◌∙◌, rules}
use Rattle.std.specs.Prelude.{IsErrAnd}
use Rattle.tv_doc.specs.Belongs.{Belongs}
use Rattle.tv_doc.specs.Document.{document_of}
use Rattle.tv_doc.specs.FieldValues.{values_of}
use Rattle.tv_doc.specs.NamedPairs.{IsBackError}
use Rattle.tv_doc.specs.declared.errors.DocParsingError.{DocParsingError}
use Rattle.tv_doc.specs.declared.errors.NamedBackError.{NamedBackError}
use Rattle.tv_doc.specs.declared.errors.NamedBackError.TheVariants.{Converted}
use Rattle.tv_doc.proofs.NamedBack.{names_keep_values, names_keep_all, names_keep_some, named_pairs_belong}
use Rattle.tv_doc.proofs.NamedErrors.{convert_error}
use Rattle.tv_doc.proofs.laws.named_documents_are_converted_back.Goals as goal

told_error : {T : Type 0} (P : NamedBackError → Type 0) (e : DocParsingError) (r : Result T NamedBackError) → IsErrAnd r (λ error. error ≡ Converted e) → P (Converted e) → IfErr r P
told_error P e (Ok x) told h = tt
told_error P e (Err x) told h = subst P (sym told) h

pub returns : goal.returns
returns c =
    let schema = c.args.schema.now in
    let d = document_of c.args.document.now in
    let is = c.in_ok-back.ensures.makes.0 in
    record {
      keeps = record {
        kept = λ f within. ap (values_of f) is
            ∙ names_keep_values schema d _ f (λ number entry at. c.names_are_of_one_field.ensures.found schema number entry c.num_fields-names_are_distinct.ensures.schema at)
            c.in_ok-named.ensures.named within;
        all = λ all f. ap (values_of f) is
            ∙ names_keep_all schema d _ (λ number entry at. c.names_are_of_one_field.ensures.found schema number entry c.num_fields-names_are_distinct.ensures.schema at)
            (λ name number at. c.names_are_of_one_field.ensures.named schema name number at) c.in_ok-named.ensures.named all f;
      };
      belongs = subst (Belongs schema) (sym is) (named_pairs_belong schema (λ name number at. c.names_are_of_one_field.ensures.named schema name number at) _);
      errors = tt;
    }

pub returns-in_err-back : goal.returns-in_err-back
returns-in_err-back c =
    let schema = c.args.schema.now in
    let d = document_of c.args.document.now in
    let stops = convert_error _ d _ (names_keep_some schema d _ (λ number entry at. c.names_are_of_one_field.ensures.found schema number entry c.num_fields-names_are_distinct.ensures.schema at) (λ name number at. c.names_are_of_one_field.ensures.named schema name number at) c.in_ok-named.ensures.named) c.in_err-back.ensures.makes in
    record {
      keeps = search rules;
      belongs = search rules;
      errors = told_error (IsBackError schema d) _ c.from_residual-in_err-back.result c.from_residual-in_err-back.ensures.1 stops;
    }
