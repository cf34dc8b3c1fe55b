use Rattle.std.proofs.Common.{Err, Ok, subst, sym}
use Rattle.tv_blocks.specs.Query.{AreTextTerms, IsTermsRefusal, measured_term}
use Rattle.tv_indexing.specs.TextTerms.{AnswersText}
use Rattle.tv_blocks.specs.Buffer.{FillsBuffer}
use Rattle.tv_indexing.specs.declared.text_terms_error.TextTermsError.{TextTermsError}
use Rattle.tv_blocks.proofs.Filling.{fills_with}
use Rattle.tv_blocks.proofs.Queries.{all_records, of_bytes, query_refused}
use Rattle.tv_blocks.proofs.query.terms_of_text.Goals as goal

pub returns-clause-fills : goal.returns-clause-fills
returns-clause-fills c =
    let schema = c.args.schema.now in
    let path = c.in-Ok.ensures.cases in
    let text = c.in-Ok-from_utf8.ensures.cases in
    let made = c.in_default-terms_of_text.ensures.answers in
    fills_with (AreTextTerms schema c.args.path.now c.args.text.now) (IsTermsRefusal schema c.args.path.now c.args.text.now) c.as_slice.result.now c.args.terms.now c.put_whole.new.buffer c.put_whole.result (
      path.1,
      text.1,
      made.0,
      of_bytes (λ p t. AnswersText schema p t (Ok made.0)) c.in-Ok.path.now c.args.path.now c.in-Ok-from_utf8.text.now c.args.text.now path.0 text.0 made.1,
      all_records measured_term c.as_slice.result.now c.append_terms.new.content.items c.new-content.result.items _ c.new-found.result made.0 c.as_slice.ensures.value c.in_ok-append_terms.ensures c.new-content.ensures.items made.2 c.new-found.ensures,
    )
    c.put_whole.ensures

pub returns-in-Err-clause-fills : goal.returns-in-Err-clause-fills
returns-in-Err-clause-fills c =
    let schema = c.args.schema.now in
    let path = c.in-Ok.ensures.cases in
    let text = c.in-Ok-from_utf8.ensures.cases in
    let why = c.in-Err.error in
    let refuses = λ (e : TextTermsError). AnswersText schema c.args.path.now c.args.text.now (Err e) in
    subst (λ e. FillsBuffer (AreTextTerms schema c.args.path.now c.args.text.now) (IsTermsRefusal schema c.args.path.now c.args.text.now) c.args.terms.now c.args.terms.now (Err e)) (sym c.query_error.ensures)
    (query_refused (AreTextTerms schema c.args.path.now c.args.text.now) refuses c.args.path.now c.args.text.now c.args.terms.now why path.1 text.1
    (λ some. of_bytes (λ p t. AnswersText schema p t (Err why)) c.in-Ok.path.now c.args.path.now c.in-Ok-from_utf8.text.now c.args.text.now path.0 text.0 (c.in-Err.ensures.answers.0 some)))
