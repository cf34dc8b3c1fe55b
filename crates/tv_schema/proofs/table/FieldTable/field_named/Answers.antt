use Rattle.std.proofs.Common.{rules, ◌≡◌}
use Rattle.tv_schema.specs.Schema.{field_named}
use Rattle.tv_schema.proofs.Names.{field_named-within}
use Rattle.tv_schema.proofs.table.FieldTable.field_named.Goals as goal

pub returns-clause-within : goal.returns-clause-within
returns-clause-within c =
    let named : c.copied.result ≡ field_named c.args.self.now c.args.name.now = search rules in
    rw named (field_named-within c.args.self.now c.args.name.now)
