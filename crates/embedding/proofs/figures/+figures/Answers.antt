use Rattle.std.proofs.Common.{sym}
use Rattle.embedding.proofs.FiguresSteps.{one_more, none_at, list_of}
use Rattle.embedding.proofs.figures.+figures.Goals as goal

pub all_figures-returns-in-None : goal.all_figures-returns-in-None
all_figures-returns-in-None t c =
    rw (sym c.deref-item-items.ensures.value) (none_at _ c.loop-item.item-index _ c.loop-item-test.true c.item-item.is (rw c.in-None.is at c.in_ok-figures.ensures))

pub all_figures-loop-item-preserved : goal.all_figures-loop-item-preserved
all_figures-loop-item-preserved t c =
    let l = c.loop-item in
    rw c.in_ok-push-in-Some.ensures.items
    (one_more _ l.item-index _ l.made.items c.in-Some.figures c.loop-item-test.true c.item-item.is l.invariant (rw c.in-Some.is at c.in_ok-figures.ensures))

pub figures_of-returns-in-Some : goal.figures_of-returns-in-Some
figures_of-returns-in-Some t c = list_of c.in-Array.items _ c.in-Some.made c.in-Array.is (rw c.in-Some.is at c.in_ok-made-in-Array.ensures)
