use Rattle.std.proofs.Common.{◌≡◌, ◌-◌, ◌^◌, ◌<◌, ◌++◌, [], length, refl, sym, subst, ◌∙◌, arith}
use Rattle.tv_blocks.specs.Blocks.{IsRefusedBlock}
use Rattle.tv_blocks.specs.Terms.{document_records}
use Rattle.tv_doc.specs.Document.{document_of}
use Rattle.tv_reader.specs.Version.{version_of}
use Rattle.tv_reader.specs.declared.version.DocStoreVersion.{DocStoreVersion}
use Rattle.tv_reader.specs.declared.error.DeserializeError.TheVariants.{AlreadyFailed}
use Rattle.tv_store.specs.Documents.{BeginsWithDocument, NoDocument, HasNoRoom, SaysNothing}
use Rattle.tv_store.specs.Reading.{reading}
use Rattle.tv_store.proofs.Promises.{refusal_is_true}
use Rattle.tv_store.proofs.Resuming.{reads_live}
use Rattle.tv_store.proofs.BlockMigration.{no_more_left}
use Rattle.tv_store.proofs.BlocksSoFar.{start_at}
use Rattle.tv_store.proofs.Projections.{start_after}
use Rattle.tv_blocks.proofs.Blocks.{breaks}
use Rattle.tv_blocks.proofs.Records.{terms_more}
use Rattle.tv_blocks.proofs.terms.append_block.Goals as goal

pub returns-in-Err-clause-err : goal.returns-in-Err-clause-err
returns-in-Err-clause-err c =
    let i = c.loop-writer.invariant in
    let reads = reads_live reading AlreadyFailed i.not_failed c.in-Err.ensures.reads in
    let m = i.so_far in
    let v = version_of c.args.version in
    let rest = c.loop-writer.source.rest.now in
    let known : length rest < 2 ^ 64 - 1 = no_more_left c.args.block.now m.before rest m.joined (omega arith) in
    let some : rest ≡ [] → SaysNothing c.in-Err.error = λ empty. c.in-Err.ensures.steps.ended i.not_failed tt empty in
    subst (IsRefusedBlock v c.args.block.now) (sym c.unread.ensures)
    (breaks v c.args.block.now m.before rest m.documents _ c.in-Err.error m.joined (c.start.ensures ∙ c.in-Err.ensures.steps.counted.start ∙ start_at c.args.block.now m.before rest _ m.joined i.placed) some m.encoded
    (λ r refusal. subst (λ (w : DocStoreVersion). NoDocument (version_of w) rest r) i.version (refusal_is_true (tt, known) reads c.in-Err.error r refl refusal))
    (λ full. subst (λ (w : DocStoreVersion). HasNoRoom (version_of w) rest) i.version (reads.no_room tt c.in-Err.error refl full)) reads.errors)

pub loop-writer-preserved : goal.loop-writer-preserved
loop-writer-preserved c =
    let i = c.loop-writer.invariant in
    let steps = rw c.in-Ok-true.field-0-test at c.in-Ok-true.ensures.steps in
    let reads = reads_live reading AlreadyFailed i.not_failed (rw c.in-Ok-true.field-0-test at c.in-Ok-true.ensures.reads) in
    record {
      not_failed = steps.not_failed;
      version = steps.version ∙ i.version;
      placed = start_after steps i.not_failed tt (omega (arith, i.placed)) ∙ i.placed;
      few = omega (arith, i.few, steps.fewer tt refl);
      so_far = terms_more (document_of c.advance.new.self.document) i.so_far (subst (λ (w : DocStoreVersion). BeginsWithDocument (version_of w) c.loop-writer.source.rest.now c.advance.new.source.rest.now (document_of c.advance.new.self.document)) i.version (reads.found tt))
          (subst (λ d. c.append_document.new.terms.items ≡ c.loop-writer.terms.items ++ document_records c.loop-writer.number c.args.field.id (document_of d)) c.document.ensures c.in_ok-append_document-in-Ok-true.ensures);
    }
