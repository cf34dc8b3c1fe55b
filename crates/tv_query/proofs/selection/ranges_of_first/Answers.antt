use Rattle.std.proofs.lemmas.Result.{IfOk-weaker}
use Rattle.tv_query.proofs.Wanting.{of_first}
use Rattle.tv_query.proofs.selection.ranges_of_first.Goals as goal

pub returns-in_ok-range-in-Some : goal.returns-in_ok-range-in-Some
returns-in_ok-range-in-Some c = IfOk-weaker c.one_range.result _ _ (λ ranges is. of_first c.args.terms.now c.in-Some.first.now c.in_ok-range-in-Some.range ranges.items c.in-Some.ensures c.in_ok-range-in-Some.ensures is) c.one_range.ensures
