use Rattle.std.proofs.Common.{IfOk, Some, ap, ◌∙◌, subst}
use Rattle.serde_json.proofs.Views.{view-Object}
use Rattle.serde_json.specs.View.{view, members_view}
use Rattle.tv_lines.proofs.RefusedValues.{object_is}
use Rattle.tv_lines.specs.RefusedValues.{FindsRefused}
use Rattle.tv_doc.specs.JsonObject.{object_values}
use Rattle.tv_lines.proofs.refused_value.refused_value.Goals as goal

pub returns-in-Object : goal.returns-in-Object
returns-in-Object c = λ members is.
    let read = c.in-Ok.ensures.ok ∙ ap (λ v. Some (view v)) c.in-Object.is ∙ ap Some (view-Object c.in-Object.object) in
    let same = object_is _ (members_view c.in-Object.object.entries) members read is in
    subst (λ ms. IfOk c.refused_member.result (FindsRefused (object_values c.args.schema.now ms))) same c.refused_member.ensures
