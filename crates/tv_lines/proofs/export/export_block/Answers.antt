use Rattle.std.proofs.Common.{refl, ap, ◌∙◌, subst, arith}
use Rattle.tv_lines.specs.Printing.{AppendsJson}
use Rattle.tv_lines.specs.Exporting.{AppendsBegun}
use Rattle.tv_lines.proofs.Checks.{counts_source}
use Rattle.tv_lines.proofs.Prints.{counts_sink, not_source, printed_all, printed_begun, printed_next, printed_none, printed_stops}
use Rattle.tv_lines.specs.declared.errors.WorkError.TheVariants as errors
use Rattle.tv_doc.specs.Document.{document_of}
use Rattle.tv_reader.specs.Version.{version_of}
use Rattle.tv_store.proofs.BlocksSoFar.{one_read, refused_next, refused_number}
use Rattle.tv_store.proofs.Projections.{start_after}
use Rattle.tv_lines.proofs.export.export_block.Goals as goal

pub loop-documents-init : goal.loop-documents-init
loop-documents-init g c = record {
  not_failed = c.new-reader.ensures.not_failed;
  version = c.new-reader.ensures.version;
  counted = c.new-reader.ensures.documents;
  source_is_known = λ s. s;
  sink_is_known = λ k. k;
  source_failures = refl;
  sink_failures = refl;
  so_far = λ s k. printed_none _ _ _ _ _ _ _ c.new-reader.ensures.start;
}

pub loop-documents-preserved : goal.loop-documents-preserved
loop-documents-preserved g c =
    let i = c.loop-documents.invariant in
    let steps = rw c.in-Ok-true.field-0-test at c.in-Ok-true.ensures.steps in
    let reads = rw c.in-Ok-true.field-0-test at (c.in-Ok-true.ensures.reads i.not_failed) in
    let write = c.in_default.ensures in
    record {
      not_failed = steps.not_failed;
      version = steps.version ∙ i.version;
      counted = omega (arith, steps.counted.documents, i.counted, c.loop-documents-test.true);
      source_is_known = λ s. reads.stays_known (i.source_is_known s);
      sink_is_known = λ k. write.sink.is_known (i.sink_is_known k);
      source_failures = reads.failures ∙ i.source_failures;
      sink_failures = write.sink.failures ∙ i.sink_failures;
      so_far = λ s k. printed_next (i.so_far s k) (one_read (ap version_of i.version) (i.source_is_known s) reads) (steps.fewer (i.source_is_known s) refl) (start_after steps i.not_failed (i.source_is_known s))
          (subst (λ d. AppendsJson c.args.schema.now c.args.layout (document_of d) (g.K.ByteSink.held c.loop-documents.sink) (g.K.ByteSink.held c.write_json.new.sink)) c.document-document.ensures (write.ok (i.sink_is_known k)));
    }

pub returns-in-Ok-false-clause-prints : goal.returns-in-Ok-false-clause-prints
returns-in-Ok-false-clause-prints g c =
    let i = c.loop-documents.invariant in
    let reads = rw c.in-Ok-false.field-0-test at (c.in-Ok-false.ensures.reads i.not_failed) in
    λ s k. printed_all (i.so_far s k) (reads.one (i.source_is_known s)).0

pub returns-in-Ok-false-clause-all : goal.returns-in-Ok-false-clause-all
returns-in-Ok-false-clause-all g c =
    let i = c.loop-documents.invariant in
    let reads = rw c.in-Ok-false.field-0-test at (c.in-Ok-false.ensures.reads i.not_failed) in
    λ s. (reads.one (i.source_is_known s)).1

pub returns-in-Ok-false-clause-source : goal.returns-in-Ok-false-clause-source
returns-in-Ok-false-clause-source g c =
    let i = c.loop-documents.invariant in
    let reads = rw c.in-Ok-false.field-0-test at (c.in-Ok-false.ensures.reads i.not_failed) in
    record { failures = reads.failures ∙ i.source_failures; is_known = λ s. reads.stays_known (i.source_is_known s) }

pub returns-in-Err-clause-prints : goal.returns-in-Err-clause-prints
returns-in-Err-clause-prints g c =
    let i = c.loop-documents.invariant in
    let steps = c.in-Err.ensures.steps in
    let reads = c.in-Err.ensures.reads i.not_failed in
    λ s k.
    let m = i.so_far s k in
    printed_stops m (errors.Read c.in-Err.error)
    (refl, refused_number steps reads ∙ i.counted ∙ m.read.counted, refused_next m.read i.not_failed (i.source_is_known s) (ap version_of i.version) steps reads)

pub returns-in-Err-clause-source : goal.returns-in-Err-clause-source
returns-in-Err-clause-source g c =
    let i = c.loop-documents.invariant in
    let reads = c.in-Err.ensures.reads i.not_failed in
    record { failures = counts_source c.in-Err.error _ i.source_failures reads.failures; is_known = λ s. reads.stays_known (i.source_is_known s) }

pub returns-clause-prints : goal.returns-clause-prints
returns-clause-prints g c = λ s k.
    let m = c.loop-documents.invariant.so_far s k in
    printed_stops m errors.TooMany (refl, omega (arith, m.read.counted, c.loop-documents.auto.documents-end, c.loop-documents-test.false))

pub returns-in-Err-write_json-clause-prints : goal.returns-in-Err-write_json-clause-prints
returns-in-Err-write_json-clause-prints g c =
    let i = c.loop-documents.invariant in
    let reads = rw c.in-Ok-true.field-0-test at (c.in-Ok-true.ensures.reads i.not_failed) in
    let error = c.in-Err-write_json.error in
    λ s k.
    let m = i.so_far s k in
    printed_stops m error
    (printed_begun m error (one_read (ap version_of i.version) (i.source_is_known s) reads) c.in-Err-write_json.ensures.errors
    (subst (λ x. AppendsBegun c.args.schema.now c.args.layout (document_of x) (g.K.ByteSink.held c.loop-documents.sink) (g.K.ByteSink.held c.write_json.new.sink)) c.document-document.ensures (c.in-Err-write_json.ensures.err (i.sink_is_known k))))

pub returns-in-Err-write_json-clause-sink : goal.returns-in-Err-write_json-clause-sink
returns-in-Err-write_json-clause-sink g c =
    let i = c.loop-documents.invariant in
    let sink = c.in-Err-write_json.ensures.sink in
    record { failures = counts_sink c.in-Err-write_json.error _ i.sink_failures sink.failures; is_known = λ k. sink.is_known (i.sink_is_known k) }

pub returns-in-Err-write_json-clause-source : goal.returns-in-Err-write_json-clause-source
returns-in-Err-write_json-clause-source g c =
    let i = c.loop-documents.invariant in
    let reads = rw c.in-Ok-true.field-0-test at (c.in-Ok-true.ensures.reads i.not_failed) in
    record { failures = not_source c.in-Err-write_json.error c.in-Err-write_json.ensures.errors (reads.failures ∙ i.source_failures); is_known = λ s. reads.stays_known (i.source_is_known s) }
