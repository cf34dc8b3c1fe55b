use Rattle.std.proofs.Common.{rules, ◌≡◌, true, false}
use Rattle.tv_term.specs.Within.{is_below}
use Rattle.tv_term.proofs.ValueRanges.{starts_already, starts_later}
use Rattle.tv_term.proofs.range.TermRange.starting_at.Goals as goal

pub returns-then-is_below : goal.returns-then-is_below
returns-then-is_below c bytes =
    let below : is_below c.args.self.start.items c.args.least.items ≡ true = search rules in
    starts_later c.args.self.start.items c.args.least.items c.args.self.end bytes below

pub returns : goal.returns
returns c bytes =
    let below : is_below c.args.self.start.items c.args.least.items ≡ false = search rules in
    starts_already c.args.self.start.items c.args.least.items c.args.self.end bytes below
