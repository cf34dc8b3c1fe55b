use Rattle.std.proofs.Common.{rules}
use Rattle.std.proofs.lemmas.List.Sorted.{IsPartitionPoint-from_clause}
use Rattle.tv_term.specs.Within.{is_below}
use Rattle.tv_term.proofs.WithinRanges.{rising_parted}
use Rattle.tv_term.proofs.range.count_below.Goals as goal

pub returns-clause-exact : goal.returns-clause-exact
returns-clause-exact g c = λ rising.
    let bytes = g.T.AsSlice.items in
    let bound = c.args.bytes.now in
    IsPartitionPoint-from_clause (λ t. is_below (bytes t) bound) c.args.terms.now c.partition_point.result c.partition_point.ensures.partitioned (rising_parted bytes c.args.terms.now bound rising) (λ a r f' called. search rules)
