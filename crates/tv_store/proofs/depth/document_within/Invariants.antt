use Rattle.std.proofs.Common.{◌↔◌}
use Rattle.tv_doc.specs.Document.{document_of}
use Rattle.tv_doc.specs.FieldValues.{pairs_left}
use Rattle.tv_value.specs.Nesting.{AllNestWithin}
use Rattle.tv_store.proofs.depth.document_within.Given as goal

-- the pairs that are left decide
abbrev pub invariant-loop-value : goal.invariant-loop-value
invariant-loop-value l = record {
  can_next : (goal.iterator-loop-value).can_next l.value-iterator;
  is_finite : (goal.iterator-loop-value).is_finite l.value-iterator;
  same : AllNestWithin l.depth (pairs_left l.value-iterator) ↔ AllNestWithin l.depth (document_of l.document);
}
