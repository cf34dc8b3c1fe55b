use Rattle.std.proofs.Common.{refl}
use Rattle.tv_blocks.proofs.document.parse_line.Goals as goal

pub returns-in-None-clause-ok : goal.returns-in-None-clause-ok
returns-in-None-clause-ok c =
    let parsed = rw c.in-None.is at c.in_ok-parse_line.ensures.parsed in
    (c.parse_line.new.document, parsed.0, refl)
