use Rattle.std.proofs.Common.{◌≡◌, ◌≢◌, Ok, refl, sym, ap, ◌∙◌}
use Rattle.std.proofs.lemmas.Result.{IfOk-weaker, IfErr-weaker}
use Rattle.serde_json.specs.View.{view}
use Rattle.tv_schema.specs.SchemaJsonReading.{schema_of}
use Rattle.tv_field.specs.declared.field_entry.SchemaError.{SchemaError}
use Rattle.tv_field.specs.declared.field_entry.SchemaError.TheVariants.{InvalidName, DuplicateName, TooManyFields, Memory, FieldNotFound, BadJson, FloatField}
use Rattle.tv_schema.proofs.SchemaJsonReadBack.{schema_of-schema_json}
use Rattle.tv_schema.proofs.laws.printed_schema_is_read_back.Goals as goal

-- an error that is not any other is the refusal of memory
only_memory : (error : SchemaError) → (error ≢ Memory → ⊥) → error ≡ Memory
only_memory InvalidName denied = absurd (denied (λ same. cc))
only_memory DuplicateName denied = absurd (denied (λ same. cc))
only_memory TooManyFields denied = absurd (denied (λ same. cc))
only_memory Memory denied = refl
only_memory FieldNotFound denied = absurd (denied (λ same. cc))
only_memory (BadJson entry) denied = absurd (denied (λ same. cc))
only_memory (FloatField entry) denied = absurd (denied (λ same. cc))

pub returns-clause-ok : goal.returns-clause-ok
returns-clause-ok c =
    let read : schema_of (view c.in_ok-description.description) ≡ Ok c.args.schema.now = ap schema_of c.in_ok-description.ensures ∙ schema_of-schema_json c.args.schema.now c.num_fields-fields.ensures.schema in
    IfOk-weaker c.from_json_value.result _ _ (λ again e. let same = sym e ∙ read in cc) c.from_json_value.ensures.ok

pub returns-clause-err : goal.returns-clause-err
returns-clause-err c =
    let read : schema_of (view c.in_ok-description.description) ≡ Ok c.args.schema.now = ap schema_of c.in_ok-description.ensures ∙ schema_of-schema_json c.args.schema.now c.num_fields-fields.ensures.schema in
    IfErr-weaker c.from_json_value.result _ _ (λ error told. only_memory error (λ other. let e = sym (told other) ∙ read in cc)) c.from_json_value.ensures.err
