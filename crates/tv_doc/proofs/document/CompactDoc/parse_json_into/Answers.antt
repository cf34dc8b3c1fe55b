use Rattle.tv_doc.proofs.Belonging.{object_belongs}
use Rattle.tv_doc.specs.Document.{document_of}
use Rattle.tv_doc.proofs.document.CompactDoc.parse_json_into.Goals as goal

pub returns-in-Some : goal.returns-in-Some
returns-in-Some c =
    let made = c.in-Some.ensures in
    record { parses = made; belongs = object_belongs c.args.schema.now made.0 (document_of c.parse_borrowed.new.self) made.2.0; none = tt }

pub returns-in-Ok : goal.returns-in-Ok
returns-in-Ok c =
    let made = c.in-Ok.ensures in
    record { parses = made; belongs = object_belongs c.args.schema.now made.0 (document_of c.parse_value.new.document) made.2.0; none = tt }
