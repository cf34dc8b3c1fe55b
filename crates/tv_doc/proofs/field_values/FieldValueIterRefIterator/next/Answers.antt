use Rattle.std.proofs.Common.{◌∙◌, rules}
use Rattle.tv_doc.proofs.Pairs.{first_pair, pair_steps, pairs_fewer}
use Rattle.tv_doc.proofs.field_values.FieldValueIterRefIterator.next.Goals as goal

pub invariant_of-self : goal.invariant_of-self
invariant_of-self c =
    let s = c.args.self.now in
    let first = first_pair s.heap.now s.pairs.now c.in_ok-pair.pairs.now c.in_ok-pair.pair.now s.held.0 s.held.1 c.in_ok-pair.ensures.cases.0 in
    record { held = (first.others, first.left) }

pub new-requires : goal.new-requires
new-requires c =
    let s = c.args.self.now in
    let first = first_pair s.heap.now s.pairs.now c.in_ok-pair.pairs.now c.in_ok-pair.pair.now s.held.0 s.held.1 c.in_ok-pair.ensures.cases.0 in
    record { held = (first.pair.1, first.reads) }

pub returns-clause-steps : goal.returns-clause-steps
returns-clause-steps c =
    let s = c.args.self.now in
    let first = first_pair s.heap.now s.pairs.now c.in_ok-pair.pairs.now c.in_ok-pair.pair.now s.held.0 s.held.1 c.in_ok-pair.ensures.cases.0 in
    let v = c.new.result in
    let steps = pair_steps s.heap.now c.in_ok-pair.pair.now c.in_ok-pair.pairs.now s.held.0 first c.from_field_id-field.result.id (c.from_field_id-field.ensures ∙ c.from.ensures)
    v.held.0 c.new.ensures.tree in
    search (rules, steps)

pub returns-clause-goes : goal.returns-clause-goes
returns-clause-goes c =
    let s = c.args.self.now in
    let first = first_pair s.heap.now s.pairs.now c.in_ok-pair.pairs.now c.in_ok-pair.pair.now s.held.0 s.held.1 c.in_ok-pair.ensures.cases.0 in
    let fewer = pairs_fewer s.heap.now c.in_ok-pair.pair.now c.in_ok-pair.pairs.now s.held.0 first in
    search (rules, fewer)
