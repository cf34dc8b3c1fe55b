use Rattle.tv_term.proofs.ValueRanges.{starts_behind}
use Rattle.tv_term.proofs.range.TermRange.from_bound.Goals as goal

pub returns-in_ok-bytes_behind-in-Excluded : goal.returns-in_ok-bytes_behind-in-Excluded
returns-in_ok-bytes_behind-in-Excluded c =
    rw c.in-Excluded.is (starts_behind c.args.self c.starting_at-in-Excluded.result c.in-Excluded.term c.in_ok-bytes_behind-in-Excluded.field-0.items c.in_ok-bytes_behind-in-Excluded.ensures c.starting_at-in-Excluded.ensures)
