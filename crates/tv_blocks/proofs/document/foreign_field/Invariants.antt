use Rattle.tv_blocks.specs.Documents.{BelongsSoFar}
use Rattle.tv_doc.specs.Document.{document_of}
use Rattle.tv_doc.specs.FieldValues.{pairs_left}
use Rattle.tv_blocks.proofs.document.foreign_field.Given as goal

abbrev pub invariant-loop-pair : goal.invariant-loop-pair
invariant-loop-pair l = record {
  can_next : (goal.iterator-loop-pair).can_next l.pair-iterator;
  is_finite : (goal.iterator-loop-pair).is_finite l.pair-iterator;
  so_far : BelongsSoFar l.schema (document_of l.document) (pairs_left l.pair-iterator);
}
