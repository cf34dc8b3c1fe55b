use Rattle.tv_doc.specs.Document.{document_of}
use Rattle.tv_doc.specs.FieldValues.{pairs_left}
use Rattle.tv_indexing.proofs.Late.{Late}
use Rattle.tv_indexing.proofs.Visiting.{Taken}
use Rattle.tv_indexing.specs.DocumentTerms.{wanted_terms}
use Rattle.tv_indexing.proofs.document.visit_terms.Given as goal

-- so far the terms before those of the pairs that are left have been taken, and none of these pairs was refused
abbrev pub invariant-loop-field : goal.invariant-loop-field
invariant-loop-field g l = record {
  can_next : (goal.iterator-loop-field g).can_next l.field-iterator;
  is_finite : (goal.iterator-loop-field g).is_finite l.field-iterator;
  so_far : Taken g.V.TermVisitor.has_taken l.fn.visitor l.visitor (wanted_terms l.schema l.fields (document_of l.document)) (wanted_terms l.schema l.fields (pairs_left l.field-iterator));
  late : Late l.schema l.fields (document_of l.document) (pairs_left l.field-iterator);
}
