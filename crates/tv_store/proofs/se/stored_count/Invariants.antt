use Rattle.std.proofs.Common.{◌≡◌, ◌+◌, length}
use Rattle.tv_doc.specs.Document.{document_of}
use Rattle.tv_doc.specs.FieldValues.{pairs_left}
use Rattle.tv_doc.specs.Belongs.{Belongs}
use Rattle.tv_store.specs.Stored.{stored}
use Rattle.tv_store.proofs.se.stored_count.Given as goal

abbrev pub invariant-loop-field : goal.invariant-loop-field
invariant-loop-field l = record {
  can_next : (goal.iterator-loop-field).can_next l.field-iterator;
  is_finite : (goal.iterator-loop-field).is_finite l.field-iterator;
  belongs : Belongs l.schema (pairs_left l.field-iterator);
  counted : l.count + length (stored l.schema (pairs_left l.field-iterator)) ≡ length (stored l.schema (document_of l.document));
}
