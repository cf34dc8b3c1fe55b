use Rattle.std.proofs.Common.{ap, sym, ◌∙◌, rules}
use Rattle.tv_heap.specs.TypeCode.{type_code}
use Rattle.tv_heap.proofs.TypeCodes.{leaf_type_code}
use Rattle.tv_heap.proofs.Shapes.{text_there, leaf_is, array_list, array_is, object_list, object_is}
use Rattle.tv_heap.proofs.value.CompactDocValueValue.as_value.Goals as goal

pub leaf_at-requires : goal.leaf_at-requires
leaf_at-requires c =
    let v = c.args.self.now in
    text_there v.heap.now (type_code v.value_type) v.address v.held c.in-Some.leaf_type (leaf_type_code v.value_type c.in-Some.leaf_type (sym c.leaf_type.ensures ∙ c.in-Some.is))

pub returns-in-Some : goal.returns-in-Some
returns-in-Some c =
    let v = c.args.self.now in
    leaf_is v.heap.now (type_code v.value_type) v.address v.held c.in-Some.leaf_type _ (leaf_type_code v.value_type c.in-Some.leaf_type (sym c.leaf_type.ensures ∙ c.in-Some.is)) c.leaf_at.ensures

pub invariant_of-result : goal.invariant_of-result
invariant_of-result c =
    let v = c.args.self.now in
    record { held = array_list v.heap.now (type_code v.value_type) v.address v.held.0 v.held.1 (ap type_code c.in-Array.is) c.sized_at-list.result.now c.sized_at-list.ensures }

pub returns-in-Array : goal.returns-in-Array
returns-in-Array c =
    let v = c.args.self.now in
    let is = array_is v.heap.now (type_code v.value_type) v.address v.held.0 v.held.1 (ap type_code c.in-Array.is) c.sized_at-list.result.now c.sized_at-list.ensures in
    search (rules, is)

pub invariant_of-result-in-Object : goal.invariant_of-result-in-Object
invariant_of-result-in-Object c =
    let v = c.args.self.now in
    record { held = object_list v.heap.now (type_code v.value_type) v.address v.held.0 v.held.1 (ap type_code c.in-Object.is) c.sized_at-list-in-Object.result.now c.sized_at-list-in-Object.ensures }

pub returns-in-Object : goal.returns-in-Object
returns-in-Object c =
    let v = c.args.self.now in
    let is = object_is v.heap.now (type_code v.value_type) v.address v.held.0 v.held.1 (ap type_code c.in-Object.is) c.sized_at-list-in-Object.result.now c.sized_at-list-in-Object.ensures in
    search (rules, is)
