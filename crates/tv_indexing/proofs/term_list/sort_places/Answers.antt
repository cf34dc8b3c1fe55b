use Rattle.std.proofs.Common.{rules}
use Rattle.std.proofs.lemmas.Fn.{always_returns_same}
use Rattle.std.proofs.lemmas.List.MinMax.{ranks_by}
use Rattle.std.specs.Cmp.Lexicographic.{nat_list_cmp_total, slice_cmp}
use Rattle.std.specs.Ordering.{is_lt, nat_cmp}
use Rattle.tv_indexing.specs.TermPlaces.{bytes_at}
use Rattle.tv_indexing.proofs.term_list.sort_places.Goals as goal

pub returns-clause-sorted : goal.returns-clause-sorted
returns-clause-sorted c =
    c.sort_unstable_by.ensures.sorted (λ x y. is_lt (slice_cmp nat_cmp (bytes_at c.args.bytes.now x) (bytes_at c.args.bytes.now y))) (ranks_by nat_list_cmp_total (bytes_at c.args.bytes.now))
    (always_returns_same _ _ _ (λ a r f k. search rules))
