use Rattle.std.proofs.Common.{◌≡◌, None, subst, arith}
use Rattle.tv_schema.specs.Path.{field_of_prefix}
use Rattle.tv_schema.proofs.LongPaths.{no_prefix}
use Rattle.tv_schema.proofs.table.FieldTable.longest_prefix.Goals as goal

pub returns : goal.returns
returns c = λ prefix long.
    subst (λ s. field_of_prefix s prefix ≡ None) c.self.view_is (no_prefix c.self.inside.entries.items c.self.inside.longest prefix c.self.invariant.names (omega (arith, long)))
