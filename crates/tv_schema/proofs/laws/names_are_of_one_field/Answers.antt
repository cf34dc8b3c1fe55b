use Rattle.tv_schema.proofs.Names.{field_named-found, field_named-named}
use Rattle.tv_schema.proofs.laws.names_are_of_one_field.Goals as goal

pub returns-clause-found : goal.returns-clause-found
returns-clause-found c = field_named-found

pub returns-clause-named : goal.returns-clause-named
returns-clause-named c = field_named-named
