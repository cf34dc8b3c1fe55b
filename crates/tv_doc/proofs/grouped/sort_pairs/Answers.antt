use Rattle.std.proofs.Common.{rules}
use Rattle.std.proofs.lemmas.List.Sorted.{IsNonDecreasingBy-from_sort_by_key, answers_always}
use Rattle.tv_doc.proofs.Grouping.{sorted_values}
use Rattle.tv_doc.proofs.grouped.sort_pairs.Goals as goal

pub returns-clause-ascending : goal.returns-clause-ascending
returns-clause-ascending g c = IsNonDecreasingBy-from_sort_by_key (λ p. p.0.id) _ c.in_ok-sort_by_key.ensures.sorted (λ a r q k. search rules)

pub returns-clause-values : goal.returns-clause-values
returns-clause-values g c = sorted_values _ _ (c.sort_by_key.ensures.stable (λ p. p.0.id) (answers_always _ _ _ (λ f a r h k. search rules)))
