use Rattle.tv_reader.specs.Version.{version_of}
use Rattle.tv_reading.specs.Skip.{IsDocumentEncoding}
use Rattle.tv_store.specs.Documents.{NoDocument}
use Rattle.tv_store.specs.Reading.{passed}
use Rattle.tv_store.proofs.Promises.{no_heap_full, reads_of, single_passed}
use Rattle.tv_store.proofs.de.skip_document.Goals as goal

pub returns-clause-reads : goal.returns-clause-reads
returns-clause-reads g c =
    let v = version_of c.args.version in
    let read = c.pass_document in
    reads_of (passed (IsDocumentEncoding v) (NoDocument v)) (λ (x : Unit {0}). x) g.S.ByteSource read.result (single_passed v _) read.ensures.finds (λ known. no_heap_full read.result _ read.ensures.finds.may_stop)

pub returns-clause-no_heap : goal.returns-clause-no_heap
returns-clause-no_heap g c = no_heap_full _ _ c.pass_document.ensures.finds.may_stop
