use Rattle.std.proofs.Common.{[], refl, ap, ◌∙◌, arith}
use Rattle.tv_reader.specs.Version.{version_of}
use Rattle.tv_reader.specs.declared.error.DeserializeError.TheVariants.{AlreadyFailed}
use Rattle.tv_store.specs.Reading.{reading}
use Rattle.tv_store.specs.declared.block_migration.MigrateBlockError.TheVariants.{TooMany}
use Rattle.tv_store.proofs.BlockMigration.{all_so_far, begun_of, counts_unread, counts_unwritten, next_migrated, next_unread, next_unwritten, none_so_far, stopped, writes_nothing}
use Rattle.tv_store.proofs.Projections.{end_of}
use Rattle.tv_store.proofs.Resuming.{reads_live}
use Rattle.tv_store.proofs.block_migration.migrate_block.Goals as goal

pub loop-document-init : goal.loop-document-init
loop-document-init g c = record {
  not_failed = c.new-reader.ensures.not_failed;
  version = c.new-reader.ensures.version;
  counted = c.new-reader.ensures.documents;
  source_is_known = λ s. s;
  sink_is_known = λ k. k;
  source_failures = refl;
  sink_failures = refl;
  so_far = λ s. none_so_far _ _ _ _ g.K.ByteSink _ c.new-reader.ensures.start;
}

pub loop-document-preserved : goal.loop-document-preserved
loop-document-preserved g c =
    let i = c.loop-document.invariant in
    let steps = rw c.in-Ok-true.field-0-test at c.in-Ok-true.ensures.steps in
    let reads = rw c.in-Ok-true.field-0-test at c.in-Ok-true.ensures.reads in
    let read = reads_live reading AlreadyFailed i.not_failed reads in
    let write = c.in_default.ensures.writes in
    record {
      not_failed = steps.not_failed;
      version = steps.version ∙ i.version;
      counted = omega (arith, steps.counted.documents, i.counted, c.loop-document-test.true);
      source_is_known = λ s. read.stays_known (i.source_is_known s);
      sink_is_known = λ k. write.stays_known (i.sink_is_known k);
      source_failures = read.failures ∙ i.source_failures;
      sink_failures = write.counts ∙ i.sink_failures;
      so_far = λ s. next_migrated (i.so_far s) i.not_failed (ap version_of i.version) (i.source_is_known s) steps reads c.document.ensures i.sink_is_known write.appends;
    }

pub returns-in-Ok-false : goal.returns-in-Ok-false
returns-in-Ok-false g c =
    let i = c.loop-document.invariant in
    let steps = rw c.in-Ok-false.field-0-test at c.in-Ok-false.ensures.steps in
    let reads = reads_live reading AlreadyFailed i.not_failed (rw c.in-Ok-false.field-0-test at c.in-Ok-false.ensures.reads) in
    record {
      all = λ s. all_so_far (i.so_far s) (steps.end i.not_failed (i.source_is_known s) refl);
      ended = λ s. (end_of reads (i.source_is_known s) (steps.end i.not_failed (i.source_is_known s) refl)).1;
      before = λ s. tt;
      source_failures = reads.failures ∙ i.source_failures;
      sink_failures = i.sink_failures;
      source_is_known = λ s. reads.stays_known (i.source_is_known s);
      sink_is_known = i.sink_is_known;
    }

pub returns-in-Err : goal.returns-in-Err
returns-in-Err g c =
    let i = c.loop-document.invariant in
    let reads = reads_live reading AlreadyFailed i.not_failed c.in-Err.ensures.reads in
    record {
      all = λ s. tt;
      ended = λ s. tt;
      before = λ s. next_unread (i.so_far s) i.not_failed (ap version_of i.version) (i.source_is_known s) c.refusal-refused.ensures i.counted c.in-Err.ensures.steps c.in-Err.ensures.reads i.sink_is_known;
      source_failures = counts_unread c.in-Err.error c.refusal-refused.result _ (ap (λ r. r.error) c.refusal-refused.ensures) i.source_failures reads.failures;
      sink_failures = i.sink_failures;
      source_is_known = λ s. reads.stays_known (i.source_is_known s);
      sink_is_known = i.sink_is_known;
    }

pub returns-in-Err-write_document : goal.returns-in-Err-write_document
returns-in-Err-write_document g c =
    let i = c.loop-document.invariant in
    let steps = rw c.in-Ok-true.field-0-test at c.in-Ok-true.ensures.steps in
    let reads = rw c.in-Ok-true.field-0-test at c.in-Ok-true.ensures.reads in
    let live = reads_live reading AlreadyFailed i.not_failed reads in
    let write = c.in-Err-write_document.ensures in
    let error = c.in-Err-write_document.error in
    record {
      all = λ s. tt;
      ended = λ s. tt;
      before = λ s.
          next_unwritten (i.so_far s) i.not_failed (ap version_of i.version) (i.source_is_known s) steps reads c.document.ensures c.start-start.ensures (c.documents_are_valid.ensures c.document.result.now) write.errors i.sink_is_known
          (λ k. begun_of _ _ _ error write.errors (write.writes.appends k));
      source_failures = live.failures ∙ i.source_failures;
      sink_failures = counts_unwritten error _ i.sink_failures write.writes.counts;
      source_is_known = λ s. live.stays_known (i.source_is_known s);
      sink_is_known = λ k. write.writes.stays_known (i.sink_is_known k);
    }

pub returns : goal.returns
returns g c =
    let i = c.loop-document.invariant in
    record {
      all = λ s. tt;
      ended = λ s. tt;
      before = λ s.
          let m = i.so_far s in
          stopped m TooMany [] i.sink_is_known (refl, refl, omega (arith, m.read.counted, c.loop-document.auto.document-end, c.loop-document-test.false)) (λ k. writes_nothing _);
      source_failures = i.source_failures;
      sink_failures = i.sink_failures;
      source_is_known = i.source_is_known;
      sink_is_known = i.sink_is_known;
    }
