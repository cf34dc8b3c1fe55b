use Rattle.std.proofs.Common.{[], ◌∷◌}
use Rattle.tv_json.specs.BorrowedData.{data_of}
use Rattle.tv_doc.specs.JsonObject.{value_for}
use Rattle.tv_doc.proofs.JsonDocuments.{told_from, one_added}
use Rattle.tv_doc.proofs.borrowed_json.add_one.Goals as goal

pub returns-in-Some : goal.returns-in-Some
returns-in-Some c =
    let row = c.in-Some.ensures.added in
    one_added (value_for c.args.to.now (data_of c.args.json.now)) c.args.document.now c.add_plain.new.document row.0 row.1 row.2

pub returns-in-None : goal.returns-in-None
returns-in-None c =
    told_from (value_for c.args.to.now (data_of c.args.json.now) ∷ []) c.args.document.now c.add_plain.new.document c.add_copy.new.document c.add_copy.result c.add_copy.new.adding.refused
    c.in-None.ensures.none c.add_copy.ensures
