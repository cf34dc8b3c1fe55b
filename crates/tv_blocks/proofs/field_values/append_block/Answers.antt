use Rattle.std.proofs.Common.{◌≡◌, ◌+◌, ◌++◌, ◌-◌, ◌^◌, ◌<◌, [], ◌∷◌, length, refl, sym, subst, ap, ◌∙◌, arith}
use Rattle.tv_base.specs.Parts.{Begins}
use Rattle.tv_blocks.specs.FieldValues.{IsValuesBlockRefusal, document_values}
use Rattle.tv_doc.specs.Document.{document_of}
use Rattle.tv_reader.specs.Version.{version_of}
use Rattle.tv_reader.specs.declared.version.DocStoreVersion.{DocStoreVersion}
use Rattle.tv_reader.specs.declared.error.DeserializeError.TheVariants.{AlreadyFailed}
use Rattle.tv_reading.specs.ChosenFields.{HasNoRoomChosen}
use Rattle.tv_store.proofs.BlockMigration.{no_more_left}
use Rattle.tv_store.proofs.Projections.{start_after}
use Rattle.tv_store.proofs.Promises.{refusal_is_true}
use Rattle.tv_store.proofs.Resuming.{reads_live}
use Rattle.tv_store.specs.Documents.{NoDocument, SaysNothing}
use Rattle.tv_store.specs.Reading.{EncodesChosenPairs, reading}
use Rattle.tv_blocks.proofs.FieldValues.{more_values, unread_values}
use Rattle.tv_blocks.proofs.Stops.{unread_at}
use Rattle.tv_blocks.proofs.field_values.append_block.Goals as goal

pub returns-in-Err-clause-err : goal.returns-in-Err-clause-err
returns-in-Err-clause-err c =
    let i = c.loop-reader.invariant in
    let reads = reads_live reading AlreadyFailed i.not_failed c.in-Err.ensures.reads in
    let m = i.so_far in
    let v = version_of c.args.version in
    let rest = c.loop-reader.source.rest.now in
    let known : length rest < 2 ^ 64 - 1 = no_more_left c.args.block.now m.before rest m.joined (omega arith) in
    let some : rest ≡ [] → SaysNothing c.in-Err.error = λ empty. c.in-Err.ensures.steps.ended i.not_failed tt empty in
    subst (IsValuesBlockRefusal v c.args.field.id c.args.block.now) (sym c.unread.ensures)
    (unread_values c.args.field _ _ m (ap (λ n. n + length rest) (c.start.ensures ∙ c.in-Err.ensures.steps.counted.start) ∙ i.placed)
    (unread_at (HasNoRoomChosen v (c.args.field ∷ [])) v rest _ c.in-Err.error some (λ r refusal. subst (λ (w : DocStoreVersion). NoDocument (version_of w) rest r) i.version (refusal_is_true (tt, known) reads c.in-Err.error r refl refusal))
    (λ full. subst (λ (w : DocStoreVersion). HasNoRoomChosen (version_of w) (c.args.field ∷ []) rest) i.version (reads.no_room tt c.in-Err.error refl full)) reads.errors))

pub loop-reader-preserved : goal.loop-reader-preserved
loop-reader-preserved c =
    let i = c.loop-reader.invariant in
    let steps = rw c.in-Ok-true.field-0-test at c.in-Ok-true.ensures.steps in
    let reads = reads_live reading AlreadyFailed i.not_failed (rw c.in-Ok-true.field-0-test at c.in-Ok-true.ensures.reads) in
    let document = document_of c.advance_fields.new.self.document in
    record {
      not_failed = steps.not_failed;
      version = steps.version ∙ i.version;
      few = omega (arith, i.few, steps.fewer tt refl);
      placed = start_after steps i.not_failed tt (omega (arith, i.placed)) ∙ i.placed;
      so_far = more_values c.args.field document i.so_far
          (subst (λ (w : DocStoreVersion). Begins (λ b. EncodesChosenPairs (version_of w) (c.args.field ∷ []) b document) c.loop-reader.source.rest.now c.advance_fields.new.source.rest.now) i.version (reads.found tt))
          (subst (λ d. c.append_document.new.values.items ≡ c.loop-reader.values.items ++ document_values c.loop-reader.number c.args.field.id (document_of d)) c.document.ensures c.in_ok-append_document-in-Ok-true.ensures);
    }
