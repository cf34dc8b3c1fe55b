use Rattle.std.proofs.Common.{ap, length, length-append, sym, arith}
use Rattle.tv_builder.specs.Given.{place_bytes}
use Rattle.tv_builder.proofs.Handing.{innermost, gives_not, refused}
use Rattle.tv_builder.proofs.building.Building.give.Goals as goal

pub overflow_add-self : goal.overflow_add-self
overflow_add-self c =
    let l = c.loop-frame in
    let now = l.self in
    let i = innermost c.args.self.now c.args.place now.heap.items now.places.items now.frames.items c.pop.new.self.items c.in-Some.frame now.pending now.complete now.open l.finished l.invariant c.in-Some.ensures.items in
    omega (arith, i.within, c.in_ok-push_place.ensures.small, ap length c.in_ok-push_place.ensures.ok, length-append now.places.items (place_bytes l.finished))

pub returns-in_err-finished-clause-err : goal.returns-in_err-finished-clause-err
returns-in_err-finished-clause-err c =
    let l = c.loop-frame in
    let now = l.self in
    refused c.args.self.now _ c.args.place _ c.in_err-finished.field-0.0 c.from_residual-in_err-finished.ensures.1
    (gives_not c.args.self.now _ c.args.place now.heap.items now.places.items _ now.frames.items c.pop.new.self.items c.in-Some.frame now.pending now.complete now.open l.finished c.in_err-finished.field-0.0
    l.invariant c.in-Some.ensures.items (sym c.if-lacks.ensures) c.in_ok-push_place.ensures.ok c.in_err-finished.ensures.err)
