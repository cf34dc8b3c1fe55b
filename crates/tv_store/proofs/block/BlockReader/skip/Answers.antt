use Rattle.tv_reader.specs.Version.{version_of}
use Rattle.tv_reading.specs.Skip.{IsDocumentEncoding}
use Rattle.tv_store.proofs.Blocks.{error_said, reads_passed}
use Rattle.tv_store.proofs.BlockSteps.{steps_found}
use Rattle.tv_store.proofs.Promises.{no_heap_full}
use Rattle.tv_store.proofs.block.BlockReader.skip.Goals as goal

pub returns-clause-steps : goal.returns-clause-steps
returns-clause-steps g c =
    let v = version_of c.args.self.now.version in
    let passed = c.pass_document-passed in
    steps_found g.S.ByteSource v (IsDocumentEncoding v) c.if-self.false c.finish.ensures (λ b encoded. encoded) passed.ensures.finds (λ known none. no_heap_full passed.result _ passed.ensures.finds.may_stop)

pub returns-clause-reads : goal.returns-clause-reads
returns-clause-reads g c = reads_passed c.finish.ensures c.args.self.now.failed (version_of c.args.self.now.version) c.pass_document-passed.ensures.finds

pub returns-clause-no_heap : goal.returns-clause-no_heap
returns-clause-no_heap g c = λ is. no_heap_full c.pass_document-passed.result _ c.pass_document-passed.ensures.finds.may_stop (error_said c.finish.ensures is)
