use Rattle.std.proofs.Common.{◌/◌, ap, sym, ◌∙◌, rules, arith}
use Rattle.tv_heap.specs.TypeCode.{type_code}
use Rattle.tv_heap.proofs.TypeCodes.{leaf_type_code}
use Rattle.tv_heap.proofs.Shapes.{array_list, object_list}
use Rattle.tv_heap.proofs.InPlace.{leaf_bytes, leaf_tokens, array_bytes, object_bytes, no_list_tokens}
use Rattle.tv_heap.proofs.value.CompactDocValue.encoded.Goals as goal

pub returns-in-Some-clause-bytes : goal.returns-in-Some-clause-bytes
returns-in-Some-clause-bytes c = λ version.
    let v = c.args.self.now in
    leaf_bytes version v.heap.now (type_code v.value_type) v.address v.held c.in-Some.leaf_type _ (leaf_type_code v.value_type c.in-Some.leaf_type (sym c.leaf_type.ensures ∙ c.in-Some.is)) (c.encoded_at.ensures.bytes version)

pub returns-in-Some-clause-tokens : goal.returns-in-Some-clause-tokens
returns-in-Some-clause-tokens c =
    let v = c.args.self.now in
    leaf_tokens v.heap.now (type_code v.value_type) v.address v.held c.in-Some.leaf_type c.encoded_at.result (leaf_type_code v.value_type c.in-Some.leaf_type (sym c.leaf_type.ensures ∙ c.in-Some.is)) c.encoded_at.ensures.tokens

pub invariant_of-result : goal.invariant_of-result
invariant_of-result c =
    let v = c.args.self.now in
    record { held = array_list v.heap.now (type_code v.value_type) v.address v.held.0 v.held.1 (ap type_code c.in-Array.is) c.sized_at-list.result.now c.sized_at-list.ensures }

pub returns-in-Array-clause-bytes : goal.returns-in-Array-clause-bytes
returns-in-Array-clause-bytes c = λ version.
    let v = c.args.self.now in
    let is = array_bytes version v.heap.now (type_code v.value_type) v.address v.held.0 v.held.1 (ap type_code c.in-Array.is) c.sized_at-list.result.now c.sized_at-list.ensures c.children.result c.children.ensures in
    search (rules, is)

pub returns-in-Array-clause-tokens : goal.returns-in-Array-clause-tokens
returns-in-Array-clause-tokens c =
    let v = c.args.self.now in
    no_list_tokens v.heap.now (type_code v.value_type) v.address v.held (omega (arith, ap type_code c.in-Array.is))

pub invariant_of-result-in-Object : goal.invariant_of-result-in-Object
invariant_of-result-in-Object c =
    let v = c.args.self.now in
    record { held = object_list v.heap.now (type_code v.value_type) v.address v.held.0 v.held.1 (ap type_code c.in-Object.is) c.sized_at-list-in-Object.result.now c.sized_at-list-in-Object.ensures }

pub returns-in-Object-clause-bytes : goal.returns-in-Object-clause-bytes
returns-in-Object-clause-bytes c = λ version.
    let v = c.args.self.now in
    let is = object_bytes version v.heap.now (type_code v.value_type) v.address v.held.0 v.held.1 (ap type_code c.in-Object.is) c.sized_at-list-in-Object.result.now c.sized_at-list-in-Object.ensures (c.children-in-Object.result / 2) (ap (λ n. n / 2) c.children-in-Object.ensures) in
    search (rules, is)

pub returns-in-Object-clause-tokens : goal.returns-in-Object-clause-tokens
returns-in-Object-clause-tokens c =
    let v = c.args.self.now in
    no_list_tokens v.heap.now (type_code v.value_type) v.address v.held (omega (arith, ap type_code c.in-Object.is))
