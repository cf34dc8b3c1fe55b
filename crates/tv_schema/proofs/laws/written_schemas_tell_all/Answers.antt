use Rattle.std.proofs.Common.{sym, ap, ◌∙◌}
use Rattle.tv_schema.specs.SchemaJsonReading.{schema_of}
use Rattle.tv_schema.proofs.SchemaJsonReadBack.{schema_of-schema_json}
use Rattle.tv_schema.proofs.laws.written_schemas_tell_all.Goals as goal

pub returns : goal.returns
returns c one other first second same =
    let read = sym (schema_of-schema_json one first) ∙ ap schema_of same ∙ schema_of-schema_json other second in cc
