use Rattle.std.proofs.Common.{◌≡◌, drop}
use Rattle.tv_base.specs.Escapes.{without_escapes}
use Rattle.tv_schema.specs.Schema.{place_from, field_named}
use Rattle.tv_schema.proofs.path.field_unescaped.Given as goal

-- the name is to be found among the entries that are left
abbrev pub invariant-loop-number : goal.invariant-loop-number
invariant-loop-number l =
    place_from l.number (drop l.number l.entry-items) (without_escapes l.prefix) ≡ field_named l.table (without_escapes l.prefix)
