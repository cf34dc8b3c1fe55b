use Rattle.tv_base.proofs.Written.{Written}
use Rattle.tv_doc.specs.Document.{document_of}
use Rattle.tv_doc.specs.FieldValues.{pairs_left}
use Rattle.tv_doc.specs.Belongs.{Belongs}
use Rattle.tv_store.specs.Stored.{written_pairs}
use Rattle.tv_format.specs.WriteVersion.{written_version}
use Rattle.tv_value.specs.Nesting.{AllNestWithin}
use Rattle.tv_store.proofs.se.write_stored_pairs.Given as goal

abbrev pub invariant-loop-field : goal.invariant-loop-field
invariant-loop-field g l = record {
  can_next : (goal.iterator-loop-field g).can_next l.field-iterator;
  is_finite : (goal.iterator-loop-field g).is_finite l.field-iterator;
  belongs : Belongs l.schema (pairs_left l.field-iterator);
  written : Written g.K.ByteSink.is_known g.K.ByteSink.held g.K.ByteSink.failures l.initial.sink l.sink
      (written_pairs (written_version l.version) l.schema (document_of l.document)) (written_pairs (written_version l.version) l.schema (pairs_left l.field-iterator));
  within : AllNestWithin 128 (document_of l.document) → AllNestWithin 128 (pairs_left l.field-iterator);
}
