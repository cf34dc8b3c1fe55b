use Rattle.std.proofs.Common.{◌≡◌, ℕ, ◌+◌, ◌-◌, ◌^◌, ◌<◌, List, [], length, refl, sym, subst, ap, ◌∙◌, arith}
use Rattle.tv_blocks.specs.SchemaTerms.{AppendsDocument, IsTermsBlockRefusal, SchemaTermsSoFar}
use Rattle.tv_doc.specs.Document.{document_of}
use Rattle.tv_reader.specs.Version.{version_of}
use Rattle.tv_reader.specs.declared.version.DocStoreVersion.{DocStoreVersion}
use Rattle.tv_reader.specs.declared.error.DeserializeError.TheVariants.{AlreadyFailed}
use Rattle.tv_store.specs.Documents.{BeginsWithDocument, HasNoRoom, NoDocument, SaysNothing}
use Rattle.tv_store.specs.Reading.{reading}
use Rattle.tv_store.proofs.Promises.{refusal_is_true}
use Rattle.tv_store.proofs.Resuming.{reads_live}
use Rattle.tv_store.proofs.BlockMigration.{no_more_left}
use Rattle.tv_store.proofs.Projections.{start_after}
use Rattle.tv_blocks.proofs.SchemaTerms.{more_terms, no_terms_yet, unread_terms}
use Rattle.tv_blocks.proofs.Stops.{unread_at}
use Rattle.tv_blocks.proofs.schema_terms.block_records.Goals as goal

pub loop-reader-init : goal.loop-reader-init
loop-reader-init c = record {
  not_failed = c.new-reader.ensures.not_failed;
  version = c.new-reader.ensures.version;
  few = let all = ap length c.new-source.ensures in omega (arith, all, c.new-records.ensures.document);
  placed = omega (arith, c.new-reader.ensures.start, ap length c.new-source.ensures);
  so_far = subst (λ (l : List ℕ). SchemaTermsSoFar c.args.with_faults c.args.schema.now (version_of c.args.version) c.args.block.now l c.new-records.result.content.items c.new-records.result.document) (sym c.new-source.ensures)
      (subst (λ (n : ℕ). SchemaTermsSoFar c.args.with_faults c.args.schema.now (version_of c.args.version) c.args.block.now c.args.block.now c.new-records.result.content.items n) (sym c.new-records.ensures.document)
      (no_terms_yet c.args.with_faults c.args.schema.now (version_of c.args.version) c.args.block.now c.new-records.result.content.items c.new-records.ensures.content));
}

pub loop-reader-preserved : goal.loop-reader-preserved
loop-reader-preserved c =
    let i = c.loop-reader.invariant in
    let steps = rw c.in-Ok-true.field-0-test at c.in-Ok-true.ensures.steps in
    let reads = reads_live reading AlreadyFailed i.not_failed (rw c.in-Ok-true.field-0-test at c.in-Ok-true.ensures.reads) in
    let appended = c.in_ok-append_document-in-Ok-true.ensures in
    let d = document_of c.advance.new.self.document in
    let number = c.loop-reader.records.document in
    let content = c.append_document.new.records.content.items in
    record {
      not_failed = steps.not_failed;
      version = steps.version ∙ i.version;
      placed = start_after steps i.not_failed tt (omega (arith, i.placed)) ∙ i.placed;
      few = omega (arith, i.few, steps.fewer tt refl, appended.document);
      so_far = subst (λ (n : ℕ). SchemaTermsSoFar c.args.with_faults c.args.schema.now (version_of c.args.version) c.args.block.now c.advance.new.source.rest.now content n) (omega (arith, appended.document))
          (more_terms d i.so_far (subst (λ (w : DocStoreVersion). BeginsWithDocument (version_of w) c.loop-reader.source.rest.now c.advance.new.source.rest.now d) i.version (reads.found tt))
          (subst (λ e. AppendsDocument c.args.with_faults c.args.schema.now number (document_of e) c.loop-reader.records.content.items content) c.document.ensures appended.ok));
    }

pub returns-in-Err-clause-err : goal.returns-in-Err-clause-err
returns-in-Err-clause-err c =
    let i = c.loop-reader.invariant in
    let reads = reads_live reading AlreadyFailed i.not_failed c.in-Err.ensures.reads in
    let m = i.so_far in
    let v = version_of c.args.version in
    let rest = c.loop-reader.source.rest.now in
    let known : length rest < 2 ^ 64 - 1 = no_more_left c.args.block.now m.before rest m.joined (omega arith) in
    let some : rest ≡ [] → SaysNothing c.in-Err.error = λ empty. c.in-Err.ensures.steps.ended i.not_failed tt empty in
    subst (IsTermsBlockRefusal c.args.with_faults c.args.schema.now v c.args.block.now) (sym c.unread.ensures)
    (unread_terms _ _ m (ap (λ n. n + length rest) c.start-start.ensures ∙ i.placed)
    (unread_at (HasNoRoom v) v rest _ c.in-Err.error some (λ r refusal. subst (λ (w : DocStoreVersion). NoDocument (version_of w) rest r) i.version (refusal_is_true (tt, known) reads c.in-Err.error r refl refusal))
    (λ full. subst (λ (w : DocStoreVersion). HasNoRoom (version_of w) rest) i.version (reads.no_room tt c.in-Err.error refl full)) reads.errors))
