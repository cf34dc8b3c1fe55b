use Rattle.tv_doc.specs.Document.{document_of}
use Rattle.tv_reader.specs.Version.{version_of}
use Rattle.tv_store.specs.Reading.{chosen_pairs}
use Rattle.tv_store.proofs.Promises.{reads_of, single_chosen}
use Rattle.tv_store.proofs.fields.read_fields_into.Goals as goal

pub returns-clause-reads : goal.returns-clause-reads
returns-clause-reads g c =
    let v = version_of c.args.version in
    let fields = c.args.fields.now in
    let read = c.take_fields_in_place in
    let document = read.new.document in
    reads_of (chosen_pairs v fields) (λ (x : Unit {0}). document_of document) g.S.ByteSource read.result (single_chosen v fields _) read.ensures.finds read.ensures.no_room
