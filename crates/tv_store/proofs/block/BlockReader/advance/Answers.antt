use Rattle.std.proofs.Common.{ℕ, List}
use Rattle.tv_doc.specs.Document.{document_of}
use Rattle.tv_format.specs.Encoding.{EncodesDocument}
use Rattle.tv_reader.specs.Legacy.{Legacy}
use Rattle.tv_reader.specs.Version.{version_of}
use Rattle.tv_store.specs.Reading.{documents}
use Rattle.tv_store.proofs.Blocks.{never_full, reads_placed}
use Rattle.tv_store.proofs.BlockSteps.{leaves_none, steps_found}
use Rattle.tv_store.proofs.Promises.{single_documents}
use Rattle.tv_store.proofs.block.BlockReader.advance.Goals as goal

pub returns-clause-steps : goal.returns-clause-steps
returns-clause-steps g c =
    let v = version_of c.args.self.now.version in
    let read = c.take_in_place-read in
    let document = read.new.document in
    steps_found g.S.ByteSource v (λ (b : List ℕ). EncodesDocument Legacy v b (document_of document)) c.if-self.false c.finish.ensures (λ b encoded. (document_of document, encoded)) read.ensures.finds
    (λ known none is. never_full v _ none (read.ensures.no_room known is))

pub returns-clause-reads : goal.returns-clause-reads
returns-clause-reads g c =
    let v = version_of c.args.self.now.version in
    let read = c.take_in_place-read in
    reads_placed c.finish.ensures c.args.self.now.failed (documents v) (single_documents v _) read.ensures.finds read.ensures.no_room

pub returns-clause-none : goal.returns-clause-none
returns-clause-none g c = leaves_none c.finish.ensures c.args.self.now c.take_in_place-read.ensures.none
