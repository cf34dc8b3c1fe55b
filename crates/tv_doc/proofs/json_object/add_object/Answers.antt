use Rattle.std.proofs.Common.{◌≡◌, ap, rules, subst, sym, List, ℕ, String, string_bytes}
use Rattle.std.proofs.lemmas.Result.{err_from_is_err_and}
use Rattle.serde_json.specs.View.{view as data_of, members_view}
use Rattle.tv_schema.specs.Schema.{field_named}
use Rattle.std.specs.declared.alloc.Global.{Global}
use Rattle.serde_json.specs.declared.value.Value.{Value}
use Rattle.tv_doc.specs.JsonObject.{FieldJson, AddsFieldValues, StopsAt, object_values, values_at}
use Rattle.tv_doc.proofs.JsonDocuments.{SoFar, none_so_far, more_so_far, all_so_far, stops_later}
use Rattle.tv_doc.proofs.json_object.add_object.Goals as goal

pub loop-key-init : goal.loop-key-init
loop-key-init c =
    let all = object_values c.args.schema.now (members_view c.args.object.entries) in
    let start = c.args.document.now in
    let same : members_view c.into_iter-key-iterator.result ≡ members_view c.args.object.entries = ap members_view (search rules) in
    subst (λ ms. SoFar all (object_values c.args.schema.now ms) start start) (sym same) (none_so_far all start)

pub loop-key-preserved : goal.loop-key-preserved
loop-key-preserved c =
    let schema = c.args.schema.now in
    let d = data_of c.in-Some.json in
    let at : List ℕ → List FieldJson = λ k. values_at schema k (field_named schema k) d in
    let all : List (String Global × Value) → List FieldJson = λ es. object_values schema (members_view es) in
    let added = subst (λ k. AddsFieldValues (at k) c.loop-key.document c.add_member.new.document) c.as_str.ensures.value c.in_ok-add_member.ensures in
    more_so_far _ (all c.loop-key.key-iterator) (at (string_bytes c.in-Some.key)) (all c.next.new.self) c.args.document.now c.loop-key.document
    c.add_member.new.document c.loop-key.invariant (ap all c.in-Some.ensures.steps) added

pub returns-in_err-add_member : goal.returns-in_err-add_member
returns-in_err-add_member c =
    let p = err_from_is_err_and c.from_residual.result c.from_residual.ensures.1 in
    let schema = c.args.schema.now in
    let d = data_of c.in-Some.json in
    let at : List ℕ → List FieldJson = λ k. values_at schema k (field_named schema k) d in
    let all : List (String Global × Value) → List FieldJson = λ es. object_values schema (members_view es) in
    let stopped = subst (λ k. StopsAt (at k) c.loop-key.document c.in_err-add_member.field-0.0) c.as_str.ensures.value c.in_err-add_member.ensures in
    rw (p.1, p.2) (stops_later _ (all c.loop-key.key-iterator) (at (string_bytes c.in-Some.key)) (all c.next.new.self) c.args.document.now c.loop-key.document
    c.in_err-add_member.field-0.0 c.loop-key.invariant (ap all c.in-Some.ensures.steps) stopped)

pub returns : goal.returns
returns c =
    let l = c.loop-key in
    let all : List (String Global × Value) → List FieldJson = λ es. object_values c.args.schema.now (members_view es) in
    all_so_far (all c.args.object.entries) (all l.key-iterator) c.args.document.now l.document l.invariant (ap all c.in-None.ensures.steps.0)
