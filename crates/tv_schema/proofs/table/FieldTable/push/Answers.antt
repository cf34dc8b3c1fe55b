use Rattle.std.proofs.Common.{ap, arith, refl, rules, ◌≡◌, ◌++◌, ◌∷◌, [], Some, length}
use Rattle.std.specs.HashMap.{Updates}
use Rattle.std.specs.String.{string_bytes, string_eq}
use Rattle.tv_schema.proofs.Schemas.{IsTable-push}
use Rattle.tv_schema.proofs.table.FieldTable.push.Goals as goal

pub invariant_of-self-2 : goal.invariant_of-self-2
invariant_of-self-2 c =
    let items : c.push.new.self.items ≡ c.self.inside.entries.items ++ c.args.entry ∷ [] = search rules in
    let view : c.self.inside.entries.items ≡ c.args.self.now = search rules in
    let same : string_bytes c.in_ok-name.name ≡ c.args.entry.name = search rules in
    let updates : Updates string_eq c.self.inside.numbers c.insert.new.self c.in_ok-name.name (Some (length c.self.inside.entries.items)) = search rules in
    let named = ap length c.name.ensures.name in
    rw items (IsTable-push c.self.inside.numbers c.insert.new.self c.in_ok-name.name (length c.self.inside.entries.items) c.self.inside.longest c.max-longest.result
    c.self.inside.entries.items c.args.entry (omega (arith, c.max-longest.ensures)) (omega (arith, c.max-longest.ensures, named)) (omega (arith, c.max-longest.ensures, c.self.invariant.small, named)) c.self.invariant c.requires.valid (rw view c.requires.is_new) (rw view c.requires.in_32_bits) same refl updates)
