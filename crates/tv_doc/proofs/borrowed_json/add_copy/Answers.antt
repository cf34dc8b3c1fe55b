use Rattle.std.proofs.Common.{[], ◌∷◌, subst}
use Rattle.tv_doc.specs.JsonObject.{AddsFieldValues, StopsAt, value_for}
use Rattle.tv_doc.proofs.borrowed_json.add_copy.Goals as goal

pub returns-in-Ok : goal.returns-in-Ok
returns-in-Ok c =
    subst (λ d. AddsFieldValues (value_for c.args.to.now d ∷ []) c.args.document.now c.add_value.new.document) c.in-Some.ensures c.in-Ok.ensures

pub returns-in-Err : goal.returns-in-Err
returns-in-Err c =
    rw c.refuse-in-Err.ensures.none (rw c.refuse-in-Err.ensures.refused (λ other. subst (λ d. StopsAt (value_for c.args.to.now d ∷ []) c.args.document.now c.in-Err.error) c.in-Some.ensures c.in-Err.ensures))
