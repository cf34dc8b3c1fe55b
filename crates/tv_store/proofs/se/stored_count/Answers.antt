use Rattle.std.proofs.Common.{arith}
use Rattle.tv_store.proofs.Stores.{stored_fewer}
use Rattle.tv_doc.specs.Document.{document_of}
use Rattle.tv_store.proofs.se.stored_count.Goals as goal

pub overflow_add-count : goal.overflow_add-count
overflow_add-count c =
    omega (arith, c.loop-field.invariant.counted, stored_fewer c.args.schema.now (document_of c.args.document.now), (c.documents_are_valid.ensures c.args.document.now).count)
