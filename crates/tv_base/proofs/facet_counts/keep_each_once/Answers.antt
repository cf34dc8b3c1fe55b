use Rattle.std.proofs.lemmas.List.Filters.{dedup_is}
use Rattle.tv_base.proofs.Documents.{each-once}
use Rattle.tv_base.proofs.facet_counts.keep_each_once.Goals as goal

pub returns : goal.returns
returns c =
    each-once c.args.pairs.now.items c.sort_unstable.new.self.items c.dedup.new.self.items c.sort_unstable.ensures.permutation c.sort_unstable.ensures.sorted
    (dedup_is _ _ _ c.dedup.ensures.filtered)
