use Rattle.std.proofs.Common.{rules, ◌≡◌, true, false}
use Rattle.tv_term.specs.Within.{ends_below}
use Rattle.tv_term.proofs.ValueRanges.{ends_already, ends_sooner}
use Rattle.tv_term.proofs.range.TermRange.ending_at.Goals as goal

pub returns-then-ends_below : goal.returns-then-ends_below
returns-then-ends_below c bytes =
    let below : ends_below c.args.self.end c.args.end.items ≡ true = search rules in
    ends_already c.args.self.start.items c.args.self.end c.args.end.items bytes below

pub returns : goal.returns
returns c bytes =
    let below : ends_below c.args.self.end c.args.end.items ≡ false = search rules in
    ends_sooner c.args.self.start.items c.args.self.end c.args.end bytes below
