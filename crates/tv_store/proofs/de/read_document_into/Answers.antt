use Rattle.tv_doc.specs.Document.{document_of}
use Rattle.tv_reader.specs.Version.{version_of}
use Rattle.tv_store.specs.Reading.{documents}
use Rattle.tv_store.proofs.Promises.{reads_of, single_documents}
use Rattle.tv_store.proofs.de.read_document_into.Goals as goal

pub returns-clause-reads : goal.returns-clause-reads
returns-clause-reads g c =
    let v = version_of c.args.version in
    let read = c.take_in_place in
    let document = read.new.document in
    reads_of (documents v) (λ (x : Unit {0}). document_of document) g.S.ByteSource read.result (single_documents v _) read.ensures.finds read.ensures.no_room
