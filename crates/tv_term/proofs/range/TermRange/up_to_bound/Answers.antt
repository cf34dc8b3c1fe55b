use Rattle.tv_term.proofs.ValueRanges.{ends_behind}
use Rattle.tv_term.proofs.range.TermRange.up_to_bound.Goals as goal

pub returns-in_ok-bytes_behind-in-Included : goal.returns-in_ok-bytes_behind-in-Included
returns-in_ok-bytes_behind-in-Included c =
    rw c.in-Included.is (ends_behind c.args.self c.ending_at.result c.in-Included.term c.in_ok-bytes_behind-in-Included.field-0.items c.in_ok-bytes_behind-in-Included.ensures c.ending_at.ensures)
