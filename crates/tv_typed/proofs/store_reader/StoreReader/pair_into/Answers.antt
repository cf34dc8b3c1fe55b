use Rattle.std.proofs.lemmas.Result.{err_from_is_err_and}
use Rattle.tv_builder.specs.HeldPairs.{document_of}
use Rattle.tv_typed.specs.Documents.{in_field}
use Rattle.tv_typed.proofs.IntoSteps.{pair_made, pair_refused_into}
use Rattle.std.proofs.Common.{refl}
use Rattle.tv_typed.proofs.store_reader.StoreReader.pair_into.Goals as goal

pub returns-in_err-field-clause-refuses : goal.returns-in_err-field-clause-refuses
returns-in_err-field-clause-refuses g c =
    let p = err_from_is_err_and c.from_residual.result c.from_residual.ensures.1 in
    rw (p.1, p.2) (in_field c.field.new.self c.in_err-field.ensures.reads)

pub returns-clause-gives : goal.returns-clause-gives
returns-clause-gives g c = pair_made (document_of c.args.pairs) c.take_pair_value-answer.result c.is_err-self.ensures.value refl refl c.in_ok-field.ensures.reads c.take_pair_value-answer.ensures.finds

pub returns-clause-refuses : goal.returns-clause-refuses
returns-clause-refuses g c = pair_refused_into (document_of c.args.pairs) c.take_pair_value-answer.result c.in_ok-field.ensures.reads c.take_pair_value-answer.ensures.finds c.take_pair_value-answer.ensures.no_room
