use Rattle.tv_schema.proofs.SchemaJsonReadBack.{schema_of-schema_json}
use Rattle.tv_schema.proofs.laws.written_schemas_are_read_back.Goals as goal

pub returns : goal.returns
returns c = schema_of-schema_json
