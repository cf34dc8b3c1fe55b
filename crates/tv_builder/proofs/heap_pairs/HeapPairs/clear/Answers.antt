use Rattle.std.proofs.Common.{ap, length, arith, rules}
use Rattle.tv_builder.proofs.Documents.{empty, empty_document}
use Rattle.tv_builder.proofs.heap_pairs.HeapPairs.clear.Goals as goal

pub invariant_of-self : goal.invariant_of-self
unfolding empty
invariant_of-self c = record {
  document = empty c.clear-2.new.self.items c.clear.new.self.items c.clear.ensures.items;
  bytes = c.clear-2.ensures.items;
  fits = omega (arith, ap length c.clear-2.ensures.items);
}

pub returns-clause-document : goal.returns-clause-document
returns-clause-document c = search (rules, empty_document)
