use Rattle.tv_doc.specs.Document.{document_of}
use Rattle.tv_reader.specs.Trees.{NoValue}
use Rattle.tv_reading.specs.Skip.{IsDocumentEncoding, IsValueEncoding}
use Rattle.tv_store.proofs.Alike.{alike, determined_chosen, determined_documents, determined_passed, determined_values}
use Rattle.tv_store.specs.Documents.{NoDocument}
use Rattle.tv_store.specs.Reading.{chosen_pairs, documents, passed}
use Rattle.tv_store.proofs.laws.readings_are_alike.Goals as goal

pub returns-clause-documents : goal.returns-clause-documents
returns-clause-documents g c = λ v old new other result twin known decided too first second.
    alike (documents v) g.S.ByteSource document_of old (determined_documents v) known new other result twin decided too first second

pub returns-clause-fields : goal.returns-clause-fields
returns-clause-fields g c = λ v fields old new other result twin known decided too first second.
    alike (chosen_pairs v fields) g.S.ByteSource document_of old (determined_chosen fields v) known new other result twin decided too first second

pub returns-clause-passed_documents : goal.returns-clause-passed_documents
returns-clause-passed_documents g c = λ v old new other result twin known decided too first second.
    alike (passed (IsDocumentEncoding v) (NoDocument v)) g.S.ByteSource (λ x. x) old (determined_passed v) known new other result twin decided too first second

pub returns-clause-passed_values : goal.returns-clause-passed_values
returns-clause-passed_values g c = λ v old new other result twin known decided too first second.
    alike (passed (IsValueEncoding v) (NoValue v)) g.S.ByteSource (λ x. x) old (determined_values v) known new other result twin decided too first second
