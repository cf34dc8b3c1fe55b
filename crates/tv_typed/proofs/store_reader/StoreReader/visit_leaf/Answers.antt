use Rattle.std.proofs.Common.{Ok, Err, refl, ap}
use Rattle.std.proofs.lemmas.Result.{err_from_is_err_and}
use Rattle.tv_typed.proofs.TypedSteps.{reads_closed}
use Rattle.tv_typed.proofs.VisitSteps.{visits, leaf_taken, none_taken, leaf_visits}
use Rattle.tv_typed.proofs.store_reader.StoreReader.visit_leaf.Goals as goal

pub returns-in_err-go_on-clause-visits : goal.returns-in_err-go_on-clause-visits
returns-in_err-go_on-clause-visits g c =
    let p = err_from_is_err_and c.from_residual.result c.from_residual.ensures.1 in
    let e = c.in_err-go_on.ensures.err in
    rw (p.1, p.2) (visits _ _ _ _ _ (Err _) (reads_closed _ _ _ _ _ _ _ _ e.0 e.1 refl refl refl refl refl) refl)

pub returns-in-Ok-clause-visits : goal.returns-in-Ok-clause-visits
returns-in-Ok-clause-visits g c =
    leaf_visits _ _ c.args.kind _ _ (Ok _) g.met.S.ByteSource.are_bytes c.requires c.in_ok-go_on.ensures.ok (leaf_taken c.in-Ok.ensures.single c.in-Ok.ensures.takes) refl refl c.hand.ensures

pub returns-in-Err-clause-visits : goal.returns-in-Err-clause-visits
returns-in-Err-clause-visits g c =
    leaf_visits _ _ c.args.kind _ _ (Err _) g.met.S.ByteSource.are_bytes c.requires c.in_ok-go_on.ensures.ok (none_taken c.in-Err.ensures.takes) refl refl (ap (λ e. Err e) c.from.ensures)
