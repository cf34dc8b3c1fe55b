use Rattle.std.proofs.Common.{refl, subst, ap, ◌∙◌, arith}
use Rattle.tv_lines.specs.Finding.{FindsDocument, LeavesDocument}
use Rattle.tv_lines.proofs.Checks.{counts_source}
use Rattle.tv_lines.proofs.Prints.{counts_sink, not_source}
use Rattle.tv_lines.proofs.Finds.{few_more, found_all, found_left, found_next, found_none, found_stops, found_untold, one_counted}
use Rattle.tv_lines.specs.declared.errors.WorkError.TheVariants as errors
use Rattle.tv_doc.specs.Document.{document_of}
use Rattle.tv_query.specs.declared.query.Query.{Query}
use Rattle.tv_reader.specs.Version.{version_of}
use Rattle.tv_store.proofs.BlocksSoFar.{one_read, refused_next, refused_number}
use Rattle.tv_store.proofs.Projections.{start_after}
use Rattle.tv_lines.proofs.find.find_in_block.Goals as goal

pub loop-number-init : goal.loop-number-init
loop-number-init g c = record {
  not_failed = c.new-reader.ensures.not_failed;
  version = c.new-reader.ensures.version;
  query = c.new-matcher.ensures.query;
  counted = c.new-reader.ensures.documents;
  documents = refl;
  few = omega arith;
  source_is_known = λ s. s;
  sink_is_known = λ k. k;
  report_is_known = λ k. k;
  source_failures = refl;
  sink_failures = refl;
  so_far = λ s k tree is. found_none _ _ _ tree _ _ _ _ _ c.new-reader.ensures.start;
}

pub loop-number-preserved : goal.loop-number-preserved
loop-number-preserved g c =
    let i = c.loop-number.invariant in
    let steps = rw c.in-Ok-true.field-0-test at c.in-Ok-true.ensures.steps in
    let reads = rw c.in-Ok-true.field-0-test at (c.in-Ok-true.ensures.reads i.not_failed) in
    let gone = c.in-Ok.ensures in
    let said = c.in-Ok.outcome in
    let count = c.counted-found.ensures in
    record {
      not_failed = steps.not_failed;
      version = steps.version ∙ i.version;
      query = gone.query ∙ i.query;
      counted = omega (arith, steps.counted.documents, i.counted, c.loop-number-test.true);
      documents = omega (arith, one_counted said c.loop-number.found c.counted-found.result count, i.documents);
      few = few_more said c.loop-number.found c.counted-found.result count i.few;
      source_is_known = λ s. reads.stays_known (i.source_is_known s);
      sink_is_known = λ k. gone.sink.is_known (i.sink_is_known k);
      report_is_known = λ k. c.in-Ok-tell.ensures.is_known (i.report_is_known k);
      source_failures = reads.failures ∙ i.source_failures;
      sink_failures = gone.sink.failures ∙ i.sink_failures;
      so_far = λ s k tree is. found_next (i.so_far s k tree is) said _ c.counted-found.result (one_read (ap version_of i.version) (i.source_is_known s) reads) (steps.fewer (i.source_is_known s) refl)
          (start_after steps i.not_failed (i.source_is_known s))
          (subst (λ d. FindsDocument c.args.schema.now tree (document_of d) (g.K.ByteSink.held c.loop-number.sink) (g.K.ByteSink.held c.find_in_document.new.sink) said) c.document-document.ensures (gone.searches (i.sink_is_known k) tree (ap (λ (q : Query). q.steps.items) i.query ∙ is)))
          refl c.start-start.ensures refl count (λ told. c.in-Ok-tell.ensures.told (i.report_is_known told));
    }

pub returns-in-Ok-false-clause-searches : goal.returns-in-Ok-false-clause-searches
returns-in-Ok-false-clause-searches g c =
    let i = c.loop-number.invariant in
    let reads = rw c.in-Ok-false.field-0-test at (c.in-Ok-false.ensures.reads i.not_failed) in
    λ s k tree is. found_all (i.so_far s k tree is) (reads.one (i.source_is_known s)).0

pub returns-in-Ok-false-clause-all : goal.returns-in-Ok-false-clause-all
returns-in-Ok-false-clause-all g c =
    let i = c.loop-number.invariant in
    let reads = rw c.in-Ok-false.field-0-test at (c.in-Ok-false.ensures.reads i.not_failed) in
    λ s. (reads.one (i.source_is_known s)).1

pub returns-in-Ok-false-clause-source : goal.returns-in-Ok-false-clause-source
returns-in-Ok-false-clause-source g c =
    let i = c.loop-number.invariant in
    let reads = rw c.in-Ok-false.field-0-test at (c.in-Ok-false.ensures.reads i.not_failed) in
    record { failures = reads.failures ∙ i.source_failures; is_known = λ s. reads.stays_known (i.source_is_known s) }

pub returns-in-Err-clause-searches : goal.returns-in-Err-clause-searches
returns-in-Err-clause-searches g c =
    let i = c.loop-number.invariant in
    let steps = c.in-Err.ensures.steps in
    let reads = c.in-Err.ensures.reads i.not_failed in
    λ s k tree is.
    let m = i.so_far s k tree is in
    found_stops m (errors.Read c.in-Err.error) (refl, refused_number steps reads ∙ i.counted ∙ m.counted, refused_next m.read i.not_failed (i.source_is_known s) (ap version_of i.version) steps reads)

pub returns-in-Err-clause-source : goal.returns-in-Err-clause-source
returns-in-Err-clause-source g c =
    let i = c.loop-number.invariant in
    let reads = c.in-Err.ensures.reads i.not_failed in
    record { failures = counts_source c.in-Err.error _ i.source_failures reads.failures; is_known = λ s. reads.stays_known (i.source_is_known s) }

pub returns-clause-searches : goal.returns-clause-searches
returns-clause-searches g c = λ s k tree is.
    let m = c.loop-number.invariant.so_far s k tree is in
    found_stops m {left = g.S.ByteSource.left c.loop-number.source} errors.TooMany (refl, omega (arith, m.counted, c.loop-number.auto.number-end, c.loop-number-test.false))

pub returns-in-Err-find_in_document-clause-searches : goal.returns-in-Err-find_in_document-clause-searches
returns-in-Err-find_in_document-clause-searches g c =
    let i = c.loop-number.invariant in
    let reads = rw c.in-Ok-true.field-0-test at (c.in-Ok-true.ensures.reads i.not_failed) in
    let error = c.in-Err-find_in_document.error in
    λ s k tree is.
    found_left (i.so_far s k tree is) (g.K.ByteSink.held c.find_in_document.new.sink) error (one_read (ap version_of i.version) (i.source_is_known s) reads)
    (subst (λ x. LeavesDocument c.args.schema.now tree (document_of x) (g.K.ByteSink.held c.loop-number.sink) (g.K.ByteSink.held c.find_in_document.new.sink) error) c.document-document.ensures (c.in-Err-find_in_document.ensures.searches (i.sink_is_known k) tree (ap (λ (q : Query). q.steps.items) i.query ∙ is)))

pub returns-in-Err-find_in_document-clause-sink : goal.returns-in-Err-find_in_document-clause-sink
returns-in-Err-find_in_document-clause-sink g c =
    let i = c.loop-number.invariant in
    let sink = c.in-Err-find_in_document.ensures.sink in
    record { failures = counts_sink c.in-Err-find_in_document.error _ i.sink_failures sink.failures; is_known = λ k. sink.is_known (i.sink_is_known k) }

pub returns-in-Err-find_in_document-clause-source : goal.returns-in-Err-find_in_document-clause-source
returns-in-Err-find_in_document-clause-source g c =
    let i = c.loop-number.invariant in
    let reads = rw c.in-Ok-true.field-0-test at (c.in-Ok-true.ensures.reads i.not_failed) in
    record { failures = not_source c.in-Err-find_in_document.error c.in-Err-find_in_document.ensures.errors (reads.failures ∙ i.source_failures); is_known = λ s. reads.stays_known (i.source_is_known s) }

pub returns-in-Err-tell-clause-searches : goal.returns-in-Err-tell-clause-searches
returns-in-Err-tell-clause-searches g c =
    let i = c.loop-number.invariant in
    let reads = rw c.in-Ok-true.field-0-test at (c.in-Ok-true.ensures.reads i.not_failed) in
    let said = c.in-Ok.outcome in
    λ s k tree is.
    found_untold (i.so_far s k tree is) (g.K.ByteSink.held c.find_in_document.new.sink) said c.in-Err-tell.error (one_read (ap version_of i.version) (i.source_is_known s) reads)
    (subst (λ d. FindsDocument c.args.schema.now tree (document_of d) (g.K.ByteSink.held c.loop-number.sink) (g.K.ByteSink.held c.find_in_document.new.sink) said) c.document-document.ensures (c.in-Ok.ensures.searches (i.sink_is_known k) tree (ap (λ (q : Query). q.steps.items) i.query ∙ is)))
    (λ told. c.in-Err-tell.ensures.untold (i.report_is_known told))

pub returns-in-Err-tell-clause-source : goal.returns-in-Err-tell-clause-source
returns-in-Err-tell-clause-source g c =
    let i = c.loop-number.invariant in
    let reads = rw c.in-Ok-true.field-0-test at (c.in-Ok-true.ensures.reads i.not_failed) in
    record { failures = reads.failures ∙ i.source_failures; is_known = λ s. reads.stays_known (i.source_is_known s) }
