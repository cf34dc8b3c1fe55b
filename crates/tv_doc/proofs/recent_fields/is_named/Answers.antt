use Rattle.std.proofs.Common.{rules, ◌≡◌, sym, ap, ◌∙◌}
use Rattle.tv_schema.proofs.Names.{field_named-found}
use Rattle.tv_schema.specs.Schema.{field_named}
use Rattle.tv_doc.proofs.recent_fields.is_named.Goals as goal

pub returns-then-field_id-num_fields-clause-named : goal.returns-then-field_id-num_fields-clause-named
returns-then-field_id-num_fields-clause-named c = λ is_same.
    let schema = c.args.schema.now in
    let same : c.name.result.now ≡ c.args.name.now = search rules in
    ap (field_named schema) (sym same ∙ c.name.ensures.name) ∙ field_named-found schema c.args.field.id c.get_field_entry.result.now c.num_fields.ensures.schema c.get_field_entry.ensures
