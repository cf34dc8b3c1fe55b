use Rattle.std.proofs.Common.{sym}
use Rattle.tv_base.proofs.Prints.{is-text, no-text}
use Rattle.tv_base.proofs.facet_counts.ChildDisplay.fmt.Goals as goal

pub returns-in-Ok-clause-writes : goal.returns-in-Ok-clause-writes
returns-in-Ok-clause-writes g c =
    let text = is-text c.args.self.now.encoded.now c.in-Ok.ensures.cases.1 in
    let same = sym c.in-Ok.ensures.cases.0 in
    rw (text, same) c.format_encoded.ensures

pub returns-in-Err-clause-writes : goal.returns-in-Err-clause-writes
returns-in-Err-clause-writes g c = let text = no-text c.args.self.now.encoded.now c.in-Err.ensures.cases.0 in rw text c.write.ensures.writes
