use Rattle.serde_json.specs.View.{members_view}
use Rattle.tv_doc.specs.Additions.{IsEmpty}
use Rattle.tv_doc.specs.Document.{document_of}
use Rattle.tv_doc.specs.JsonObject.{object_values}
use Rattle.tv_doc.proofs.Belonging.{object_belongs}
use Rattle.tv_doc.proofs.JsonDocuments.{makes_document}
use Rattle.tv_doc.proofs.document.CompactDoc.from_json_object.Goals as goal

pub returns-in-Ok : goal.returns-in-Ok
returns-in-Ok c =
    let schema = c.args.schema.now in
    let members = members_view c.args.object.entries in
    let new = c.add_object.new.document in
    let none : IsEmpty c.new-document.result = record { document = c.new-document.ensures.document; heap = c.new-document.ensures.heap } in
    let made = makes_document (object_values schema members) c.new-document.result new none c.in-Ok.ensures in
    record { makes = made; belongs = object_belongs schema members (document_of new) made.0 }

pub returns-in-Err : goal.returns-in-Err
returns-in-Err c =
    let none : IsEmpty c.new-document.result = record { document = c.new-document.ensures.document; heap = c.new-document.ensures.heap } in
    record { makes = (c.new-document.result, none, c.in-Err.ensures); belongs = tt }
