use Rattle.serde_json.specs.View.{members_view}
use Rattle.tv_doc.specs.JsonObject.{object_values}
use Rattle.tv_lines.proofs.RefusedValues.{StandsFor}
use Rattle.tv_lines.proofs.refused_value.refused_member.Given as goal

abbrev pub invariant-loop-key : goal.invariant-loop-key
invariant-loop-key l = StandsFor (object_values l.schema (members_view l.fn.object.entries)) (object_values l.schema (members_view l.key-iterator))
