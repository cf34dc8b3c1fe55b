use Rattle.std.proofs.Common.{ap, length, arith, rules}
use Rattle.tv_builder.proofs.Documents.{empty, empty_document}
use Rattle.tv_builder.proofs.heap_pairs.HeapPairs.new.Goals as goal

pub invariant_of-result : goal.invariant_of-result
unfolding empty
invariant_of-result c = record {
  document = empty c.new.result.items c.new-2.result.items c.new-2.ensures.items;
  bytes = c.new.ensures.items;
  fits = omega (arith, ap length c.new.ensures.items);
}

pub returns-clause-document : goal.returns-clause-document
returns-clause-document c = search (rules, empty_document)
