use Rattle.std.proofs.Common.{arith}
use Rattle.tv_reading.proofs.Left.{list_popped, nothing_left, item_taken}
use Rattle.tv_reading.proofs.items.next_item.Goals as goal

pub returns-in_default : goal.returns-in_default
returns-in_default c = λ v. nothing_left v _ c.loop-items.items c.loop-items.outer.items (omega arith) (omega (arith, c.in_default.ensures.cases.0, c.loop-items.outer.ok.0)) (c.loop-items.invariant v)

pub loop-items-preserved : goal.loop-items-preserved
loop-items-preserved c = λ v. list_popped v _ c.loop-items.items c.loop-items.outer.items c.in-Some.next c.pop.new.self.items (omega arith) c.in-Some.ensures.items (c.loop-items.invariant v)

pub returns : goal.returns
returns c = λ v. item_taken v _ c.loop-items.items _ (omega arith) (c.loop-items.invariant v)
