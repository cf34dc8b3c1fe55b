use Rattle.tv_doc.specs.Document.{document_of}
use Rattle.tv_reading.specs.Skip.{IsDocumentEncoding}
use Rattle.tv_store.proofs.Alike.{determined_chosen, determined_documents, determined_passed, nexts_alike}
use Rattle.tv_store.specs.Documents.{NoDocument}
use Rattle.tv_store.specs.Reading.{chosen_pairs, documents, passed}
use Rattle.tv_store.proofs.laws.next_readings_are_alike.Goals as goal

pub returns-clause-documents : goal.returns-clause-documents
returns-clause-documents g c = λ begun ended other old reader twin result answer kept second first also.
    nexts_alike documents g.S.ByteSource document_of begun ended other old reader twin kept second determined_documents result answer first also

pub returns-clause-fields : goal.returns-clause-fields
returns-clause-fields g c = λ fields begun ended other old reader twin result answer kept second first also.
    nexts_alike (λ v. chosen_pairs v fields) g.S.ByteSource document_of begun ended other old reader twin kept second (determined_chosen fields) result answer first also

pub returns-clause-passed : goal.returns-clause-passed
returns-clause-passed g c = λ begun ended other old reader twin result answer kept second first also.
    nexts_alike (λ v. passed (IsDocumentEncoding v) (NoDocument v)) g.S.ByteSource (λ x. x) begun ended other old reader twin kept second determined_passed result answer first also
