use Rattle.std.proofs.Common.{arith}
use Rattle.tv_doc.specs.Document.{document_of}
use Rattle.tv_store.specs.Stored.{stored}
use Rattle.tv_format.specs.Version.{V2}
use Rattle.tantivy_schema.proofs.laws.stored_pairs_are_read_back.Goals as goal

pub returns-clause-read : goal.returns-clause-read
returns-clause-read g c = λ known small rest e.
    let schema = c.args.schema.now in
    let document = c.args.document.now in
    let pairs = stored schema (document_of document) in
    c.read_document.ensures.only known pairs _ rest e
    (c.short_documents_encode.ensures V2 tt pairs (c.stored_pairs_are_valid.ensures schema (document_of document) (c.documents_are_valid.ensures document)))
    (omega (arith, c.stored_pairs_need_no_more_room.ensures schema (document_of document)))
