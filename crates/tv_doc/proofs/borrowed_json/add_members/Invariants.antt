use Rattle.std.specs.Prelude.{drop}
use Rattle.tv_json.specs.BorrowedData.{members_data}
use Rattle.tv_doc.specs.JsonObject.{object_values}
use Rattle.tv_doc.proofs.JsonDocuments.{SoFar}
use Rattle.tv_doc.proofs.borrowed_json.add_members.Given as goal

abbrev pub invariant-loop-place : goal.invariant-loop-place
invariant-loop-place l =
    SoFar (object_values l.reading.schema.now (members_data l.members)) (object_values l.reading.schema.now (members_data (drop l.place l.members))) l.fn.document l.document
