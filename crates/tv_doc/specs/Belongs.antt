-- Documents of a schema.
use Rattle.std.specs.Prelude.{◌<◌, List, length}
use Rattle.std.specs.List.{AllByRecursion}
use Rattle.tv_field.specs.Entry.{Entry}
use Rattle.tv_format.specs.Tree.{Document}

-- each field is one of the schema
abbrev pub Belongs : List Entry → Document → Type 0
Belongs schema document = AllByRecursion (λ pair. pair.0 < length schema) document
