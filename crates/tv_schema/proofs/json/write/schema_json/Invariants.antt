use Rattle.std.proofs.Common.{◌≡◌, drop}
use Rattle.tv_schema.specs.SchemaJson.{entries_json}
use Rattle.tv_schema.proofs.SchemaJsonItems.{items_before}
use Rattle.tv_schema.proofs.json.write.schema_json.Given as goal

abbrev pub invariant-loop-entry : goal.invariant-loop-entry
invariant-loop-entry l = entries_json l.entries ≡ items_before l.items.items (entries_json (drop l.entry-index l.entries))
