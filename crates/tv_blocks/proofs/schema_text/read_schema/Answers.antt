use Rattle.std.proofs.Common.{ap, ◌∙◌, sym}
use Rattle.serde_json.specs.Read.{read}
use Rattle.serde_json.specs.View.{view}
use Rattle.tv_schema.specs.SchemaJsonReading.{plain}
use Rattle.tv_blocks.proofs.schema_text.read_schema.Goals as goal

pub returns-in-Ok-from_json_value_by_key-clause-ok : goal.returns-in-Ok-from_json_value_by_key-clause-ok
returns-in-Ok-from_json_value_by_key-clause-ok c =
    let text = c.in-Ok.ensures.cases in
    (view c.in-Ok-from_str.value, (text.1, ap read (sym text.0) ∙ c.in-Ok-from_str.ensures.ok), ap plain c.in-Ok-from_json_value_by_key.ensures.ok)
