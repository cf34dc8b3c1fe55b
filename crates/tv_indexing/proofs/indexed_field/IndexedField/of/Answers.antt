use Rattle.std.proofs.Common.{◌≡◌, true, false, refl, sym}
use Rattle.tv_field.specs.Entry.{is_indexed_type}
use Rattle.tv_indexing.specs.IndexedField.{FoundField, Names, indexed, not_indexed, refused, unknown}
use Rattle.tv_indexing.proofs.indexed_field.IndexedField.of.Goals as goal

pub returns-in_default-clause-field : goal.returns-in_default-clause-field
returns-in_default-clause-field c = λ some. refused _ (unknown (sym c.in_default.ensures.found) (c.unknown_path.ensures some)) refl

pub returns-then-not-is_indexed-clause-field : goal.returns-then-not-is_indexed-clause-field
returns-then-not-is_indexed-clause-field c = λ some.
    let type = c.field_type-field_type.result.now in
    let test : is_indexed_type type ≡ false = cc in
    let at : FoundField = record { field = c.in-Some.field; type = type; rest = c.in-Some.rest.now } in
    let names : Names c.args.schema.now c.args.path.now at = record { found = sym c.in-Some.ensures.found; entry = c.get_field_entry.result.now; is_entry = c.get_field_entry.ensures; has_type = sym c.field_type-field_type.ensures } in
    refused _ (not_indexed at names test refl) refl

pub returns-clause-field : goal.returns-clause-field
returns-clause-field c =
    let type = c.field_type-field_type.result.now in
    let test : is_indexed_type type ≡ true = cc in
    let at : FoundField = record { field = c.in-Some.field; type = type; rest = c.in-Some.rest.now } in
    let names : Names c.args.schema.now c.args.path.now at = record { found = sym c.in-Some.ensures.found; entry = c.get_field_entry.result.now; is_entry = c.get_field_entry.ensures; has_type = sym c.field_type-field_type.ensures } in
    indexed at names test refl
