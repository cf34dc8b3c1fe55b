use Rattle.std.proofs.Common.{Ok, Err, sym, subst}
use Rattle.tv_builder.specs.declared.heap_pairs.HeapPairs.{HeapPairs}
use Rattle.tv_builder.specs.HeldPairs.{document_of as pairs_of}
use Rattle.tv_doc.specs.Document.{document_of}
use Rattle.tv_format.specs.Encoding.{EncodesDocument}
use Rattle.tv_reader.specs.Legacy.{Legacy}
use Rattle.tv_reader.specs.Error.{StoreMayStop}
use Rattle.tv_reader.specs.Version.{version_of}
use Rattle.tv_reader.proofs.Finding.{finds_as, finds_fails}
use Rattle.tv_store.specs.Documents.{EncodesReadPairs, NoDocument}
use Rattle.tv_store.specs.Reading.{documents}
use Rattle.tv_store.proofs.Promises.{reads_of, single_documents}
use Rattle.tv_store.proofs.de.read_document.Goals as goal

pub returns-in-Ok : goal.returns-in-Ok
returns-in-Ok g c =
    let v = version_of c.args.version in
    reads_of (documents v) document_of g.S.ByteSource {May = StoreMayStop} (Ok c.from_pairs.result) (single_documents v _)
    (finds_as _ (EncodesReadPairs v) (NoDocument v) (λ a r. subst (λ (p : HeapPairs). EncodesDocument Legacy v a (pairs_of p)) (sym c.from_pairs.ensures) r) c.in-Ok.ensures.finds) (λ known is. absurd (cc))

pub returns-in-Err : goal.returns-in-Err
returns-in-Err g c =
    let v = version_of c.args.version in
    reads_of (documents v) document_of g.S.ByteSource (Err c.in-Err.error) (single_documents v _) (finds_fails (EncodesReadPairs v) (NoDocument v) (λ w r q. q) c.in-Err.ensures.finds) (λ known is. c.in-Err.ensures.no_room known (cc))
