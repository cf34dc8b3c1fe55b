use Rattle.std.proofs.lemmas.Result.{err_from_is_err_and}
use Rattle.tv_typed.proofs.VisitSteps.{items_refused, items_visited}
use Rattle.tv_typed.proofs.store_reader.StoreReader.visit_elements.Goals as goal

pub returns-in_err-announced-clause-visits : goal.returns-in_err-announced-clause-visits
returns-in_err-announced-clause-visits g c =
    let p = err_from_is_err_and c.from_residual.result c.from_residual.ensures.1 in
    rw (p.1, p.2) (items_refused _ c.in_err-announced.ensures.reads)

pub returns-clause-visits : goal.returns-clause-visits
returns-clause-visits g c = let V = g.V.ValueVisitor in items_visited (V.of_array c.args.visitor.now) (V.array_refused c.args.visitor.now) c.in_ok-announced.ensures.reads c.visit_array.ensures
