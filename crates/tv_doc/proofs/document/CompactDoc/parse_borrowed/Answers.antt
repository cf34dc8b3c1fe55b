use Rattle.std.proofs.Common.{Some, sym, ap, ◌∙◌}
use Rattle.serde_json.specs.Data.{object}
use Rattle.tv_json.proofs.Levels.{data_of-Object}
use Rattle.tv_json.specs.BorrowedData.{data_of, members_data}
use Rattle.tv_doc.specs.Additions.{IsEmpty}
use Rattle.tv_doc.proofs.JsonDocuments.{told_object}
use Rattle.tv_doc.proofs.document.CompactDoc.parse_borrowed.Goals as goal

pub returns-in-Object : goal.returns-in-Object
returns-in-Object c =
    let members = c.in-Object.members in
    let none : IsEmpty c.clear.new.self = record { document = c.clear.ensures.document; heap = c.clear.ensures.heap } in
    let reads = c.in_ok-members.ensures.value ∙ ap (λ json. Some (data_of json)) c.in-Object.is ∙ ap Some (data_of-Object members) ∙ ap (λ ms. Some (object (members_data ms))) (sym c.as_slice.ensures.value) in
    told_object c.args.schema.now c.args.text.now (members_data c.as_slice.result.now) c.clear.new.self c.add_members.new.document c.add_members.result c.add_members.new.adding.refused reads none c.add_members.ensures
