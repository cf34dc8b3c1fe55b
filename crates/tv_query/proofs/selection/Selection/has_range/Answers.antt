use Rattle.std.proofs.Common.{refl}
use Rattle.tv_query.proofs.Wanting.{found_in}
use Rattle.tv_term.specs.Range.{IsIn}
use Rattle.tv_term.specs.declared.range.TermRange.{TermRange}
use Rattle.tv_query.proofs.selection.Selection.has_range.Goals as goal

pub returns-then-contains : goal.returns-then-contains
returns-then-contains c = (
  λ t. found_in (λ (range : TermRange). IsIn range c.args.term.now) c.args.self.now.ranges.items c.deref-range-items.result.now c.loop-range.range-index c.range-item.result c.deref-range-items.ensures.value c.loop-range-test.true c.range-item.is (c.if-contains.ensures.0 t),
  λ a. refl,
)
