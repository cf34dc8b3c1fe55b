use Rattle.tv_base.proofs.Prints.{is-text, no-text}
use Rattle.tv_base.proofs.facet_counts.ChildDebug.fmt.Goals as goal

pub returns-in-Ok : goal.returns-in-Ok
returns-in-Ok g c =
    let text = is-text c.args.self.now.encoded.now c.in-Ok.ensures.cases.1 in
    record { writes = rw text (rw text at c.write.ensures.writes) }

pub returns-in-Err : goal.returns-in-Err
returns-in-Err g c = let text = no-text c.args.self.now.encoded.now c.in-Err.ensures.cases.0 in record { writes = rw text c.write-in-Err.ensures.writes }
