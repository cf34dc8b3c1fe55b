use Rattle.std.proofs.Common.{sym, ◌∙◌}
use Rattle.tv_reader.proofs.LegacyObjects.{no_text, no_json, other_json, has_tree, has_float_in}
use Rattle.tv_reader.proofs.legacy.object_of.Goals as goal

pub returns-in_default-clause-answers : goal.returns-in_default-clause-answers
returns-in_default-clause-answers c = no_text _ c.in_default.ensures.cases.0

pub returns-in-Err-2-clause-answers : goal.returns-in-Err-2-clause-answers
returns-in-Err-2-clause-answers c =
    no_json _ _ c.in-Ok.ensures.cases.0 (c.in-Err.ensures.err (λ memory. let told = rw c.if-is_memory.false at c.is_memory.ensures.1 memory in absurd cc))

pub returns-then-not-is_object-clause-answers : goal.returns-then-not-is_object-clause-answers
returns-then-not-is_object-clause-answers c = other_json _ _ _ c.in-Ok.ensures.cases.0 c.in-Ok-from_str.ensures.ok (sym c.is_object.ensures ∙ c.if-not-is_object.true)

pub returns-in-Ok-from_json-clause-answers : goal.returns-in-Ok-from_json-clause-answers
returns-in-Ok-from_json-clause-answers c =
    has_tree _ _ _ _ c.in-Ok.ensures.cases.0 c.in-Ok.ensures.cases.1 c.in-Ok-from_str.ensures.ok (sym c.is_object.ensures ∙ c.if-not-is_object.false) c.in-Ok-from_json.ensures

pub returns-in-Err-FloatNumber-clause-answers : goal.returns-in-Err-FloatNumber-clause-answers
returns-in-Err-FloatNumber-clause-answers c =
    has_float_in _ _ _ c.in-Ok.ensures.cases.0 c.in-Ok.ensures.cases.1 c.in-Ok-from_str.ensures.ok (sym c.is_object.ensures ∙ c.if-not-is_object.false)
    (rw c.in-Err-FloatNumber.field-0-is at c.in-Err-FloatNumber.ensures)
