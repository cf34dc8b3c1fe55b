use Rattle.std.proofs.Common.{arith, subst, refl, sym, ◌∙◌}
use Rattle.std.proofs.lemmas.Result.{err_from_is_err_and}
use Rattle.tv_builder.specs.HeldPairs.{document_of}
use Rattle.tv_typed.proofs.IntoSteps.{closed_into, given_stand}
use Rattle.tv_typed.specs.Documents.{GivesInto}
use Rattle.tv_typed.proofs.document.BinaryDocumentDeserializerDocumentDeserializer.next_pair.Goals as goal

pub returns-in_err-go_on-clause-gives : goal.returns-in_err-go_on-clause-gives
returns-in_err-go_on-clause-gives g c =
    let p = err_from_is_err_and c.from_residual.result c.from_residual.ensures.1 in
    let e = c.in_err-go_on.ensures.err in
    rw (p.1, p.2, e.0) (record {
      gives = tt;
      refuses = closed_into _ _ _ c.args.self.now.reader.now (document_of c.args.pairs.now) e.1;
      awaited = λ o. let both = sym o ∙ e.1 in absurd cc;
      marks_failure = e.1;
      counts = λ o. let both = sym o ∙ e.1 in absurd cc;
      closed = λ failed. (refl, refl);
      same_reader = refl;
    })

pub returns-clause-gives : goal.returns-clause-gives
returns-clause-gives g c =
    let d = c.args.self.now in
    let r = c.in_ok-pairs.ensures in
    let gives = subst (λ z. GivesInto g.S.ByteSource d.reader.now c.pair_into.new.self (document_of z) (document_of c.in_ok-pairs.field-0)) c.replace-before.ensures.value r.gives in
    record {
      gives = (omega (arith, c), λ told given. gives told (given_stand g.S.ByteSource.left (λ z. z.reader.now) (document_of c.args.pairs.now) d given));
      refuses = tt;
      awaited = tt;
      marks_failure = r.marks_failure;
      counts = r.counts;
      closed = λ failed. let both = sym c.in_ok-go_on.ensures.ok ∙ failed in absurd cc;
      same_reader = refl;
    }
