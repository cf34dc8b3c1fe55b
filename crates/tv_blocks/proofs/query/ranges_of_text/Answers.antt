use Rattle.std.proofs.Common.{[], Err, Ok, refl, subst, sym}
use Rattle.tv_blocks.specs.Query.{AreTextRanges, IsRangesRefusal, range_record}
use Rattle.tv_indexing.specs.JsonRanges.{AnswersRanges}
use Rattle.tv_blocks.specs.Buffer.{FillsBuffer}
use Rattle.tv_indexing.specs.declared.text_terms_error.TextTermsError.{TextTermsError}
use Rattle.tv_blocks.proofs.Filling.{fills_with}
use Rattle.tv_blocks.proofs.Queries.{all_records, of_bytes, query_refused}
use Rattle.tv_blocks.proofs.query.ranges_of_text.Goals as goal

pub returns-clause-fills : goal.returns-clause-fills
returns-clause-fills c =
    let schema = c.args.schema.now in
    let path = c.in-Ok.ensures.cases in
    let text = c.in-Ok-from_utf8.ensures.cases in
    let found = c.in-Ok-ranges_of_text.found.items in
    fills_with (AreTextRanges schema c.args.path.now c.args.text.now) (IsRangesRefusal schema c.args.path.now c.args.text.now) c.as_slice-2.result.now c.args.ranges.now c.put_whole.new.buffer c.put_whole.result (
      path.1,
      text.1,
      found,
      of_bytes (λ p t. AnswersRanges schema p t (Ok found)) c.in-Ok.path.now c.args.path.now c.in-Ok-from_utf8.text.now c.args.text.now path.0 text.0 c.in-Ok-ranges_of_text.ensures,
      all_records range_record c.as_slice-2.result.now c.append_ranges.new.content.items c.new-content.result.items c.as_slice.result.now [] found c.as_slice-2.ensures.value c.in_ok-append_ranges.ensures c.new-content.ensures.items c.as_slice.ensures.value refl,
    )
    c.put_whole.ensures

pub returns-in-Err-clause-fills : goal.returns-in-Err-clause-fills
returns-in-Err-clause-fills c =
    let schema = c.args.schema.now in
    let path = c.in-Ok.ensures.cases in
    let text = c.in-Ok-from_utf8.ensures.cases in
    let why = c.in-Err.error in
    let refuses = λ (e : TextTermsError). AnswersRanges schema c.args.path.now c.args.text.now (Err e) in
    subst (λ e. FillsBuffer (AreTextRanges schema c.args.path.now c.args.text.now) (IsRangesRefusal schema c.args.path.now c.args.text.now) c.args.ranges.now c.args.ranges.now (Err e)) (sym c.query_error.ensures)
    (query_refused (AreTextRanges schema c.args.path.now c.args.text.now) refuses c.args.path.now c.args.text.now c.args.ranges.now why path.1 text.1
    (λ some. of_bytes (λ p t. AnswersRanges schema p t (Err why)) c.in-Ok.path.now c.args.path.now c.in-Ok-from_utf8.text.now c.args.text.now path.0 text.0 (c.in-Err.ensures.0 some)))
