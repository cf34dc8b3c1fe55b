use Rattle.std.proofs.Common.{◌≡◌, ◌++◌}
use Rattle.tv_blocks.specs.Terms.{document_records}
use Rattle.tv_blocks.proofs.Records.{value_records}
use Rattle.tv_doc.specs.Document.{document_of}
use Rattle.tv_doc.specs.FieldValues.{values_left}
use Rattle.tv_blocks.proofs.terms.append_document.Given as goal

abbrev pub invariant-loop-value : goal.invariant-loop-value
invariant-loop-value l = record {
  can_next : (goal.iterator-loop-value).can_next l.value-iterator;
  is_finite : (goal.iterator-loop-value).is_finite l.value-iterator;
  so_far : l.terms.items ++ value_records l.number l.field.id (values_left l.value-iterator) ≡ l.initial.terms.items ++ document_records l.number l.field.id (document_of l.document);
}
