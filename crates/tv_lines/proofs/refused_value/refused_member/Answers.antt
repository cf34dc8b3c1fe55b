use Rattle.std.proofs.Common.{List, String, ap, ℕ, string_bytes, subst}
use Rattle.serde_json.specs.View.{view as data_of, members_view}
use Rattle.serde_json.specs.declared.value.Value.{Value}
use Rattle.std.specs.declared.alloc.Global.{Global}
use Rattle.tv_lines.proofs.RefusedValues.{all_passed, found_there, passed}
use Rattle.tv_lines.specs.RefusedValues.{FindsRefused}
use Rattle.tv_doc.specs.JsonObject.{FieldJson, object_values, values_at}
use Rattle.tv_schema.specs.Schema.{field_named}
use Rattle.tv_lines.proofs.refused_value.refused_member.Goals as goal

pub returns-in-Some-2 : goal.returns-in-Some-2
returns-in-Some-2 c =
    let schema = c.args.schema.now in
    let at : List ℕ → List FieldJson = λ k. values_at schema k (field_named schema k) (data_of c.in-Some.json) in
    let all : List (String Global × Value) → List FieldJson = λ es. object_values schema (members_view es) in
    let found = subst (λ k. FindsRefused (at k) c.in_ok-refused.field-0) c.as_str.ensures.value c.in_ok-refused.ensures in
    found_there _ (all c.loop-key.key-iterator) (at (string_bytes c.in-Some.key)) (all c.next.new.self) c.in-Some-2.refused c.loop-key.invariant
    (ap all c.in-Some.ensures.steps) (subst (FindsRefused (at (string_bytes c.in-Some.key))) c.in-Some-2.is found)

pub loop-key-preserved : goal.loop-key-preserved
loop-key-preserved c =
    let schema = c.args.schema.now in
    let at : List ℕ → List FieldJson = λ k. values_at schema k (field_named schema k) (data_of c.in-Some.json) in
    let all : List (String Global × Value) → List FieldJson = λ es. object_values schema (members_view es) in
    let found = subst (λ k. FindsRefused (at k) c.in_ok-refused.field-0) c.as_str.ensures.value c.in_ok-refused.ensures in
    passed _ (all c.loop-key.key-iterator) (at (string_bytes c.in-Some.key)) (all c.next.new.self) c.loop-key.invariant
    (ap all c.in-Some.ensures.steps) (subst (FindsRefused (at (string_bytes c.in-Some.key))) c.in_default.is found)

pub returns : goal.returns
returns c =
    let all : List (String Global × Value) → List FieldJson = λ es. object_values c.args.schema.now (members_view es) in
    all_passed _ (all c.loop-key.key-iterator) c.loop-key.invariant (ap all c.in-None.ensures.steps.0)
