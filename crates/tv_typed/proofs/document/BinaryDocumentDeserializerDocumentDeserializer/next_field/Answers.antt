use Rattle.std.proofs.Common.{arith, refl, sym, ◌∙◌}
use Rattle.std.proofs.lemmas.Result.{err_from_is_err_and}
use Rattle.tv_typed.specs.Documents.{EncodesField, FieldRefused}
use Rattle.tv_typed.proofs.DocumentSteps.{pair_given, pair_refused, closed_refused}
use Rattle.tv_typed.proofs.NextSteps.{item_given, item_refused}
use Rattle.tv_typed.specs.Depths.{AtField}
use Rattle.tv_typed.proofs.document.BinaryDocumentDeserializerDocumentDeserializer.next_field.Goals as goal

pub returns-in_err-go_on-clause-gives : goal.returns-in_err-go_on-clause-gives
returns-in_err-go_on-clause-gives g c =
    let p = err_from_is_err_and c.from_residual.result c.from_residual.ensures.1 in
    let d = c.args.self.now in
    let V = g.V.ValueDeserialize in
    let e = c.in_err-go_on.ensures.err in
    rw (p.1, p.2, e.0) (record {
      gives = tt;
      refuses = closed_refused _ _ _ d.reader.now V.refused V.deep d.position d.announced e.1;
      marks_failure = e.1;
      counts = λ o. let both = sym o ∙ e.1 in absurd cc;
      closed = λ failed. (refl, refl);
      same_reader = refl;
    })

pub returns-in_err-pair-clause-gives : goal.returns-in_err-pair-clause-gives
returns-in_err-pair-clause-gives g c =
    let p = err_from_is_err_and c.from_residual-in_err-pair.result c.from_residual-in_err-pair.ensures.1 in
    let V = g.V.ValueDeserialize in
    let d = c.args.self.now in
    let r = c.in_err-pair.ensures in
    rw (p.1, p.2) (record {
      gives = tt;
      refuses = pair_refused V.is V.refused V.deep d.position d.announced (omega (arith, c)) r.deserializes r.deep;
      marks_failure = r.marks_failure;
      counts = r.deserializes.counts;
      closed = λ failed. let both = sym c.in_ok-go_on.ensures.ok ∙ failed in absurd cc;
      same_reader = refl;
    })

pub returns-clause-gives : goal.returns-clause-gives
returns-clause-gives g c =
    let r = c.in_ok-pair.ensures in
    record {
      gives = (omega (arith, c), pair_given g.V.ValueDeserialize.is c.in_ok-go_on.ensures.ok r.deserializes);
      refuses = tt;
      marks_failure = r.marks_failure;
      counts = r.deserializes.counts;
      closed = λ failed. let both = sym c.in_ok-go_on.ensures.ok ∙ failed in absurd cc;
      same_reader = refl;
    }

pub returns-in_err-pair-clause-reads : goal.returns-in_err-pair-clause-reads
returns-in_err-pair-clause-reads g c =
    let p = err_from_is_err_and c.from_residual-in_err-pair.result c.from_residual-in_err-pair.ensures.1 in
    let V = g.V.ValueDeserialize in
    let d = c.args.self.now in
    let r = c.in_err-pair.ensures in
    rw (p.1, p.2) (item_refused (EncodesField V.is) (FieldRefused V.refused) (AtField V.deep) (AtField V.within) d.announced d.position (omega (arith, c)) r.deserializes r.deep r.marks_failure)

pub returns-clause-reads : goal.returns-clause-reads
returns-clause-reads g c =
    let V = g.V.ValueDeserialize in
    let d = c.args.self.now in
    let r = c.in_ok-pair.ensures in
    item_given (EncodesField V.is) (FieldRefused V.refused) (AtField V.deep) (AtField V.within) d.announced d.position (omega (arith, c)) r.deserializes r.within r.marks_failure
