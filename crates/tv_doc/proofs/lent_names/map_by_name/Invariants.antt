use Rattle.std.proofs.Common.{◌≤◌, map}
use Rattle.tv_json.specs.Named.{named_trees}
use Rattle.tv_doc.proofs.Spans.{Spanned}
use Rattle.tv_doc.proofs.lent_names.map_by_name.Given as goal

abbrev pub invariant-loop-at : goal.invariant-loop-at
invariant-loop-at g l = record {
  in_range : l.start ≤ l.at;
  spanned : Spanned g.V.Value.tree (g.S.FieldNames.names l.fn.schema) l.fn.pairs l.field.id l.start l.at (map (named_trees g.V.Value.tree) l.named.entries);
}
