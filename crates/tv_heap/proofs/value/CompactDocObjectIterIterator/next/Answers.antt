use Rattle.std.proofs.Common.{rules}
use Rattle.std.proofs.Math.Logic.{∥∥₁_map}
use Rattle.tv_heap.proofs.Children.{first_entry, no_entry, no_value, entry_steps, entries_fewer}
use Rattle.tv_heap.specs.TypeCode.{type_code}
use Rattle.tv_heap.proofs.value.CompactDocObjectIterIterator.next.Goals as goal

pub returns-in_err-key-clause-steps : goal.returns-in_err-key-clause-steps
returns-in_err-key-clause-steps c =
    let s = c.args.self.now in
    let none = no_entry s.heap.now s.list.now s.held.0 s.held.1 c.in_err-key.ensures.first in
    rw c.from_residual.ensures (none, none)

pub returns-in_err-value_type-clause-steps : goal.returns-in_err-value_type-clause-steps
returns-in_err-value_type-clause-steps c =
    let s = c.args.self.now in
    let k = c.in_ok-key in
    let none = no_value s.heap.now s.list.now s.held.0 s.held.1 (k.field-0-0, k.key, k.behind) k.ensures.first c.in_err-value_type.ensures.first in
    rw c.from_residual-in_err-value_type.ensures (none, none)

pub invariant_of-self : goal.invariant_of-self
invariant_of-self c =
    let s = c.args.self.now in
    let k = c.in_ok-key in
    let x = c.in_ok-value_type in
    let first = first_entry s.heap.now s.list.now s.held.0 s.held.1 (k.field-0-0, k.key, k.behind) (x.value_type, x.address, x.list) k.ensures.first k.ensures.none x.ensures.first in
    record { held = (first.others, first.left) }

pub invariant_of-result : goal.invariant_of-result
invariant_of-result c =
    let s = c.args.self.now in
    let k = c.in_ok-key in
    let x = c.in_ok-value_type in
    let first = first_entry s.heap.now s.list.now s.held.0 s.held.1 (k.field-0-0, k.key, k.behind) (x.value_type, x.address, x.list) k.ensures.first k.ensures.none x.ensures.first in
    record { held = (first.tree, first.reads) }

pub returns-clause-steps : goal.returns-clause-steps
returns-clause-steps c =
    let s = c.args.self.now in
    let k = c.in_ok-key in
    let x = c.in_ok-value_type in
    let first = first_entry s.heap.now s.list.now s.held.0 s.held.1 (k.field-0-0, k.key, k.behind) (x.value_type, x.address, x.list) k.ensures.first k.ensures.none x.ensures.first in
    let steps = entry_steps s.heap.now x.list.now k.key (type_code x.value_type) x.address s.held.0 first c.text_at.result.now c.text_at.ensures in
    search (rules, steps)

pub returns-clause-goes : goal.returns-clause-goes
returns-clause-goes c =
    let s = c.args.self.now in
    let k = c.in_ok-key in
    let x = c.in_ok-value_type in
    let first = first_entry s.heap.now s.list.now s.held.0 s.held.1 (k.field-0-0, k.key, k.behind) (x.value_type, x.address, x.list) k.ensures.first k.ensures.none x.ensures.first in
    let fewer = entries_fewer s.heap.now x.list.now k.key (type_code x.value_type) x.address s.held.0 first in
    search (rules, fewer)

pub text_at-requires : goal.text_at-requires
text_at-requires c =
    let s = c.args.self.now in
    let k = c.in_ok-key in
    let x = c.in_ok-value_type in
    let first = first_entry s.heap.now s.list.now s.held.0 s.held.1 (k.field-0-0, k.key, k.behind) (x.value_type, x.address, x.list) k.ensures.first k.ensures.none x.ensures.first in
    ∥∥₁_map first.stands (λ p. (first.key, p))
