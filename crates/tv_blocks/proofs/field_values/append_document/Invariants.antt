use Rattle.std.proofs.Common.{◌≡◌, ◌++◌}
use Rattle.std.specs.List.{flat_map}
use Rattle.tv_blocks.specs.FieldValues.{document_values, value_record}
use Rattle.tv_doc.specs.Document.{document_of}
use Rattle.tv_doc.specs.FieldValues.{values_left}
use Rattle.tv_blocks.proofs.field_values.append_document.Given as goal

abbrev pub invariant-loop-value : goal.invariant-loop-value
invariant-loop-value l = record {
  can_next : (goal.iterator-loop-value).can_next l.value-iterator;
  is_finite : (goal.iterator-loop-value).is_finite l.value-iterator;
  so_far : l.values.items ++ flat_map (value_record l.number) (values_left l.value-iterator) ≡ l.initial.values.items ++ document_values l.number l.fn.field.id (document_of l.document);
}
