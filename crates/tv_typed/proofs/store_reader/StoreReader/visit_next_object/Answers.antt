use Rattle.std.proofs.lemmas.Result.{err_from_is_err_and}
use Rattle.tv_typed.proofs.VisitSteps.{next_visited, next_visit_fails}
use Rattle.tv_format.specs.Version.{V2}
use Rattle.tv_typed.proofs.store_reader.StoreReader.visit_next_object.Goals as goal

pub returns-in_err-kind : goal.returns-in_err-kind
returns-in_err-kind g c =
    let p = err_from_is_err_and c.from_residual.result c.from_residual.ensures.1 in
    let V = g.V.ValueVisitor in
    rw (p.1, p.2) (next_visit_fails (V.of_object c.args.visitor.now V2) (V.object_refused c.args.visitor.now V2) c.in_err-kind.ensures.reads)

pub returns : goal.returns
returns g c = let V = g.V.ValueVisitor in next_visited (V.of_object c.args.visitor.now) (V.object_refused c.args.visitor.now) c.requires c.in_ok-kind.ensures.reads c.visit_entries.ensures.visits
