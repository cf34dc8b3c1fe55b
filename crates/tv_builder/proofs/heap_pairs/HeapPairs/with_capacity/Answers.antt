use Rattle.std.proofs.Common.{ap, length, arith, rules}
use Rattle.tv_builder.proofs.Documents.{empty, empty_document}
use Rattle.tv_builder.proofs.heap_pairs.HeapPairs.with_capacity.Goals as goal

pub invariant_of-result : goal.invariant_of-result
unfolding empty
invariant_of-result c = record {
  document = empty _ _ c.new.ensures.items;
  bytes = c.in_ok-heap.ensures.items;
  fits = omega (arith, ap length c.in_ok-heap.ensures.items);
}

pub returns-clause-document : goal.returns-clause-document
returns-clause-document c = search (rules, empty_document)
