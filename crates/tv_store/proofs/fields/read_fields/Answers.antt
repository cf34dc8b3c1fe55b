use Rattle.std.proofs.Common.{List, ℕ, Ok, Err, sym, subst}
use Rattle.tv_builder.specs.declared.heap_pairs.HeapPairs.{HeapPairs}
use Rattle.tv_reading.specs.ChosenFields.{EncodesChosen}
use Rattle.tv_doc.specs.Document.{document_of}
use Rattle.tv_doc.specs.declared.document.CompactDoc.{CompactDoc}
use Rattle.tv_reader.specs.Error.{StoreMayStop}
use Rattle.tv_reader.specs.Version.{version_of}
use Rattle.tv_reader.proofs.Finding.{finds_as, finds_fails}
use Rattle.tv_store.specs.Documents.{NoDocument}
use Rattle.tv_store.specs.Reading.{chosen_pairs, EncodesChosenPairs}
use Rattle.tv_store.proofs.Promises.{reads_of, single_chosen}
use Rattle.tv_store.proofs.fields.read_fields.Goals as goal

pub returns-in-Ok : goal.returns-in-Ok
returns-in-Ok g c =
    let v = version_of c.args.version in
    let fields = c.args.fields.now in
    let read = λ (b : List ℕ) (d : CompactDoc). EncodesChosenPairs v fields b (document_of d) in
    reads_of (chosen_pairs v fields) document_of g.S.ByteSource {May = StoreMayStop} (Ok c.from_pairs.result) (single_chosen v fields _)
    (finds_as _ read (NoDocument v) (λ a r. subst (λ (p : HeapPairs). EncodesChosen v fields a p) (sym c.from_pairs.ensures) r) c.in-Ok.ensures.finds) (λ known is. absurd (cc))

pub returns-in-Err : goal.returns-in-Err
returns-in-Err g c =
    let v = version_of c.args.version in
    let fields = c.args.fields.now in
    let read = λ (b : List ℕ) (d : CompactDoc). EncodesChosenPairs v fields b (document_of d) in
    reads_of (chosen_pairs v fields) document_of g.S.ByteSource (Err c.in-Err.error) (single_chosen v fields _) (finds_fails read (NoDocument v) (λ w r q. q) c.in-Err.ensures.finds) (λ known is. c.in-Err.ensures.no_room known (cc))
