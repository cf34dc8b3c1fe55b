use Rattle.std.proofs.Common.{refl, ap, ◌∙◌, arith}
use Rattle.tv_lines.proofs.Checks.{counts_source, is_block, refuses_block}
use Rattle.tv_reader.specs.Version.{version_of}
use Rattle.tv_store.proofs.BlocksSoFar.{read_next, read_none, refused_next, refused_number}
use Rattle.tv_lines.proofs.check.check_block.Goals as goal

pub loop-documents-init : goal.loop-documents-init
loop-documents-init g c = record {
  projection = refl;
  not_failed = c.new-reader.ensures.not_failed;
  version = c.new-reader.ensures.version;
  counted = c.new-reader.ensures.documents;
  stays_known = λ s. s;
  failures = refl;
  so_far = λ s. read_none _ _ _ _ c.new-reader.ensures.start;
}

pub loop-documents-preserved : goal.loop-documents-preserved
loop-documents-preserved g c =
    let i = c.loop-documents.invariant in
    let steps = rw c.in-Ok-true.field-0-test at c.in-Ok-true.ensures.steps in
    let reads = rw c.in-Ok-true.field-0-test at (c.in-Ok-true.ensures.reads i.not_failed) in
    record {
      projection = i.projection;
      not_failed = steps.not_failed;
      version = steps.version ∙ i.version;
      counted = omega (arith, steps.counted.documents, i.counted, c.loop-documents-test.true);
      stays_known = λ s. reads.stays_known (i.stays_known s);
      failures = reads.failures ∙ i.failures;
      so_far = λ s. read_next (i.so_far s) i.not_failed (i.stays_known s) (ap version_of i.version) steps reads;
    }

pub returns-in-Ok-false-clause-tests : goal.returns-in-Ok-false-clause-tests
returns-in-Ok-false-clause-tests g c =
    let i = c.loop-documents.invariant in
    let reads = rw c.in-Ok-false.field-0-test at (c.in-Ok-false.ensures.reads i.not_failed) in
    λ s few.
    let none = reads.one (i.stays_known s) in
    (is_block (i.so_far s) i.projection none.0, none.1)

pub returns-in-Ok-false-clause-source : goal.returns-in-Ok-false-clause-source
returns-in-Ok-false-clause-source g c =
    let i = c.loop-documents.invariant in
    let reads = rw c.in-Ok-false.field-0-test at (c.in-Ok-false.ensures.reads i.not_failed) in
    record { failures = reads.failures ∙ i.failures; is_known = λ s. reads.stays_known (i.stays_known s) }

pub returns-in-Err-clause-tests : goal.returns-in-Err-clause-tests
returns-in-Err-clause-tests g c =
    let i = c.loop-documents.invariant in
    let steps = c.in-Err.ensures.steps in
    let reads = c.in-Err.ensures.reads i.not_failed in
    λ s few.
    let m = i.so_far s in
    refuses_block m i.projection (refused_number steps reads ∙ i.counted) (refused_next m i.not_failed (i.stays_known s) (ap version_of i.version) steps reads)

pub returns-in-Err-clause-source : goal.returns-in-Err-clause-source
returns-in-Err-clause-source g c =
    let i = c.loop-documents.invariant in
    let reads = c.in-Err.ensures.reads i.not_failed in
    record { failures = counts_source c.in-Err.error _ i.failures reads.failures; is_known = λ s. reads.stays_known (i.stays_known s) }

pub returns-clause-tests : goal.returns-clause-tests
returns-clause-tests g c =
    let i = c.loop-documents.invariant in
    λ s few.
    let m = i.so_far s in
    absurd (omega (arith, m.few, few, c.loop-documents.auto.documents-end, c.loop-documents-test.false))
