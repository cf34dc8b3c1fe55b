use Rattle.std.proofs.Common.{◌∙◌, sym}
use Rattle.tv_builder.specs.HeldPairs.{document_of}
use Rattle.tv_store.proofs.GivenSteps.{next_given}
use Rattle.tv_typed.proofs.IntoSteps.{was_open}
use Rattle.tv_store.proofs.pairs_given.CompactDocDocumentDeserialize.deserialize.Goals as goal

pub loop-bytes-preserved : goal.loop-bytes-preserved
loop-bytes-preserved g c =
    let D = g.D.DocumentDeserializer in
    let l = c.loop-bytes in
    let f = c.in_ok-next_pair.ensures in
    let is_open = was_open (D.has_failed l.deserializer) _ (λ failed. (f.closed failed).0) in (
      (λ told.
          let so_far = l.invariant.0 told in
          next_given D.remaining D.is_known D.gives c.args.deserializer.now l.deserializer c.next_pair.new.self (document_of l.pairs) (document_of c.next_pair.new.pairs) c.in_ok-next_pair.field-0 c.if-not-branch.false f.gives so_far.0 so_far.1),
      f.marks_failure ∙ sym is_open ∙ l.invariant.1,
      f.counts is_open ∙ l.invariant.2,
      f.same_reader ∙ l.invariant.3,
    )
