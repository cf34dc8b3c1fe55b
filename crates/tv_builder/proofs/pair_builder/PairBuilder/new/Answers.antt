use Rattle.std.proofs.Common.{◌≡◌, ◌≤◌, length, take, ap, ◌∙◌, arith, rules}
use Rattle.std.proofs.lemmas.List.{take_all}
use Rattle.tv_builder.proofs.PairBuilding.{new_fields, built_new, new_state}
use Rattle.tv_builder.proofs.pair_builder.PairBuilder.new.Goals as goal

pub invariant_of-result : goal.invariant_of-result
invariant_of-result c =
    let doc = c.args.finished in
    let len : length doc.heap.items ≡ c.len-kept.result = omega (arith, c.len-kept.ensures.len) in
    let f = new_fields doc c.new.result c.len-kept.result len c.new.ensures in
    record { document = f.document; kept_within = f.kept_within; bytes = f.bytes; state = f.state }

pub returns-clause-document : goal.returns-clause-document
returns-clause-document c =
    let doc = c.args.finished in
    let len : c.len-kept.result ≡ length doc.heap.items = omega (arith, c.len-kept.ensures.len) in
    search (rules, built_new, len)

pub returns-clause-state : goal.returns-clause-state
returns-clause-state c =
    let empty = c.new.ensures in
    let within : length c.new.result.heap.items ≤ c.len-kept.result = omega (arith, c.len-kept.ensures.len, ap length empty.heap_is) in
    search (rules, new_state, within, empty)

pub returns-clause-kept : goal.returns-clause-kept
returns-clause-kept c = ap (λ z. take c.len-kept.result z) c.new.ensures.heap_is ∙ take_all c.len-kept.result c.args.finished.heap.items (omega (arith, c.len-kept.ensures.len))
