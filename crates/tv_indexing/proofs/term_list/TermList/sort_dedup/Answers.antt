use Rattle.std.specs.Cmp.Lexicographic.{bytes_decides, nat_list_cmp_total, nat_list_eq_equiv, texts_ties}
use Rattle.std.specs.Prelude.{bytes_eq}
use Rattle.std.proofs.lemmas.List.Kept.{Contains-dedup, Contains-from_dedup, IsStrictlySortedBy-dedup}
use Rattle.std.proofs.lemmas.List.Sorted.{Contains-permutation, IsPermutation-sym}
use Rattle.tv_indexing.proofs.term_list.TermList.sort_dedup.Goals as goal

pub returns-clause-rising : goal.returns-clause-rising
returns-clause-rising c =
    rw c.dedup.ensures (IsStrictlySortedBy-dedup nat_list_cmp_total texts_ties c.sort.new.self c.sort.ensures.sorted)

pub returns-clause-same_terms : goal.returns-clause-same_terms
returns-clause-same_terms c = λ term.
    let old = c.args.self.now in
    let sorted = c.sort.new.self in
    rw c.dedup.ensures (
      (λ has. Contains-permutation sorted old term (IsPermutation-sym old sorted c.sort.ensures.permutation) (Contains-from_dedup bytes_eq sorted term has)),
      (λ has. Contains-dedup nat_list_eq_equiv (λ x y same. (bytes_decides x y).0 same) sorted term (Contains-permutation old sorted term c.sort.ensures.permutation has)),
    )
