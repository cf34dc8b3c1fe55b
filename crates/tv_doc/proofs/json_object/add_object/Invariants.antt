use Rattle.serde_json.specs.View.{members_view}
use Rattle.tv_doc.specs.JsonObject.{object_values}
use Rattle.tv_doc.proofs.JsonDocuments.{SoFar}
use Rattle.tv_doc.proofs.json_object.add_object.Given as goal

abbrev pub invariant-loop-key : goal.invariant-loop-key
invariant-loop-key l =
    SoFar (object_values l.schema (members_view l.fn.object.entries)) (object_values l.schema (members_view l.key-iterator)) l.fn.document l.document
