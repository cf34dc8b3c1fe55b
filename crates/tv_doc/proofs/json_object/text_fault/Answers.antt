use Rattle.std.proofs.Common.{Some, ap, ◌∙◌}
use Rattle.serde_json.proofs.Views.{view-Object}
use Rattle.serde_json.specs.View.{view, members_view}
use Rattle.tv_doc.proofs.json_object.text_fault.Goals as goal

pub returns-in-Object : goal.returns-in-Object
returns-in-Object c =
    let object = c.in-Object.field-0 in
    (members_view object.entries, c.in-Ok.ensures.ok ∙ ap (λ v. Some (view v)) c.in-Object.is ∙ ap Some (view-Object object))
