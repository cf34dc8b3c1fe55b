use Rattle.std.proofs.Common.{rules}
use Rattle.tv_heap.proofs.Children.{first_tree, no_tree, steps_are, left_fewer}
use Rattle.tv_heap.specs.TypeCode.{type_code}
use Rattle.tv_heap.proofs.value.CompactDocArrayIterIterator.next.Goals as goal

pub returns-in_err-value_type-clause-steps : goal.returns-in_err-value_type-clause-steps
returns-in_err-value_type-clause-steps c =
    let s = c.args.self.now in
    let none = no_tree s.heap.now s.list.now s.held.0 s.held.1 c.in_err-value_type.ensures.first in
    rw c.from_residual.ensures (none, none)

pub invariant_of-self : goal.invariant_of-self
invariant_of-self c =
    let s = c.args.self.now in
    let x = c.in_ok-value_type in
    let first = first_tree s.heap.now s.list.now s.held.0 s.held.1 (x.value_type, x.address, x.list) x.ensures.first x.ensures.none in
    record { held = (first.others, first.left) }

pub invariant_of-result : goal.invariant_of-result
invariant_of-result c =
    let s = c.args.self.now in
    let x = c.in_ok-value_type in
    let first = first_tree s.heap.now s.list.now s.held.0 s.held.1 (x.value_type, x.address, x.list) x.ensures.first x.ensures.none in
    record { held = (first.tree, first.reads) }

pub returns-clause-steps : goal.returns-clause-steps
returns-clause-steps c =
    let s = c.args.self.now in
    let x = c.in_ok-value_type in
    let first = first_tree s.heap.now s.list.now s.held.0 s.held.1 (x.value_type, x.address, x.list) x.ensures.first x.ensures.none in
    let steps = steps_are s.heap.now x.list.now (type_code x.value_type) x.address s.held.0 first in
    search (rules, steps)

pub returns-clause-goes : goal.returns-clause-goes
returns-clause-goes c =
    let s = c.args.self.now in
    let x = c.in_ok-value_type in
    let first = first_tree s.heap.now s.list.now s.held.0 s.held.1 (x.value_type, x.address, x.list) x.ensures.first x.ensures.none in
    let fewer = left_fewer s.heap.now x.list.now (type_code x.value_type) x.address s.held.0 first in
    search (rules, fewer)
