use Rattle.std.proofs.Common.{rules, ◌∙◌, ℕ, ◌+◌, ◌<◌, List, Bor, length, map, ap, sym, subst, arith}
use Rattle.std.specs.declared.cmp.Reverse.{Reverse}
use Rattle.std.specs.List.Sorted.{IsPermutation, IsSorted, IsSortedBy}
use Rattle.std.specs.Ordering.{is_lt}
use Rattle.std.proofs.lemmas.List.{get_or-map, length-map, take-map}
use Rattle.std.proofs.lemmas.List.Sorted.{answers_always, IsPermutation-map}
use Rattle.tv_base.specs.FacetCounting.{entry_of}
use Rattle.tv_base.specs.Greatest.{rank_cmp}
use Rattle.tv_base.specs.declared.facet_counts.FacetCount.{FacetCount}
use Rattle.tv_base.proofs.FacetCounts.{nothing}
use Rattle.tv_base.proofs.facet_counts.greatest_counts.Goals as goal

abbrev key_of : FacetCount → Reverse ℕ × Bor (List ℕ)
key_of entry = (record { 0 = entry.count }, entry.child)

abbrev no_count : FacetCount
no_count = record { child = nothing; count = 0 }

ranked-entries : (items : List FacetCount) → IsSortedBy (λ one other. is_lt (rank_cmp (entry_of one) (entry_of other))) items → IsSorted rank_cmp (map entry_of items)
ranked-entries items h k d low inside =
    let within : k + 1 < length items = omega (arith, length-map items entry_of, inside) in
    let here = get_or-map entry_of items k no_count d (omega arith) in
    let next = get_or-map entry_of items (k + 1) no_count d within in
    rw (here, next) (h k no_count low within)

pub returns : goal.returns
returns c =
    let ranked = c.sort_unstable_by_key.new.self.items in
    let by_key = c.sort_unstable_by_key.ensures.sorted key_of (answers_always _ _ _ (λ f a r f' k. search rules)) in
    record {
      ranked = map entry_of ranked;
      has_all = IsPermutation-map entry_of c.args.counts.now ranked (subst (λ l. IsPermutation l ranked) c.in_ok-greatest.ensures.items c.sort_unstable_by_key.ensures.permutation);
      by_rank = ranked-entries ranked by_key;
      first = ap (map entry_of) c.truncate.ensures.items ∙ sym (take-map entry_of c.args.most ranked);
    }
