use Rattle.std.proofs.Common.{subst}
use Rattle.std.proofs.lemmas.Result.{err_from_is_err_and}
use Rattle.tv_typed.specs.LegacyObjects.{OfEncoding}
use Rattle.tv_typed.specs.Visits.{EncodesNextVisited, NextVisitRefused}
use Rattle.tv_typed.proofs.LegacySteps.{unmarked_still}
use Rattle.tv_typed.proofs.VisitSteps.{legacy_refused, legacy_visited}
use Rattle.tv_format.specs.Version.{V2}
use Rattle.tv_typed.proofs.store_reader.StoreReader.visit_legacy.Goals as goal

pub returns-in_err-tree-clause-visits : goal.returns-in_err-tree-clause-visits
returns-in_err-tree-clause-visits g c =
    let p = err_from_is_err_and c.from_residual.result c.from_residual.ensures.1 in
    rw (p.1, p.2) (legacy_refused _ c.in_err-tree.ensures.reads)

pub returns-in_err-bytes-clause-visits : goal.returns-in_err-bytes-clause-visits
returns-in_err-bytes-clause-visits g c =
    let p = err_from_is_err_and c.from_residual-in_err-bytes.result c.from_residual-in_err-bytes.ensures.1 in
    rw (p.1, p.2) (legacy_visited _ _ c.in_ok-tree.ensures.reads tt)

pub returns-clause-visits : goal.returns-clause-visits
returns-clause-visits g c =
    let V = g.V.ValueVisitor in
    let visitor = c.args.visitor.now in
    legacy_visited _ _ c.in_ok-tree.ensures.reads (subst (λ bytes. OfEncoding (EncodesNextVisited (V.of_object visitor V2)) (NextVisitRefused (V.object_refused visitor V2)) bytes c.visit_encoding.result) c.in_ok-bytes.ensures.ok c.visit_encoding.ensures)

pub returns-clause-unmarked : goal.returns-clause-unmarked
returns-clause-unmarked g c = unmarked_still c.visit_encoding.result _ c.in_ok-tree.ensures.reads.marks_failure
