use Rattle.std.proofs.Common.{◌+◌, ◌-◌, ◌/◌, ◌≤◌, min, length, subst, arith}
use Rattle.tv_builder.specs.Whole.{Put}
use Rattle.tv_builder.proofs.Rooms.{paid_within}
use Rattle.tv_builder.proofs.whole.put_within.Goals as goal

pub returns-in-Ok-clause-ok : goal.returns-in-Ok-clause-ok
returns-in-Ok-clause-ok g c =
    let old = c.args.heap.now in
    let most = c.uncounted_most-most.result in
    let paid : most ≤ length old.items + min ((4294967295 - length old.items) / 10) 1048576 = omega (arith, c.len-len.ensures.len, c.uncounted_most-most.ensures) in
    let put = subst (λ t. Put most old.items t c.put_tree.new.heap.items c.in-Ok.place) c.lend.ensures c.in-Ok.ensures.puts.0 in
    paid_within old.items (g.V.Value.tree c.args.value.now) c.put_tree.new.heap.items c.in-Ok.place c.requires paid put
