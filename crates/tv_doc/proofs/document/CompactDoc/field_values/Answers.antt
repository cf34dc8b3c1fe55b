use Rattle.std.proofs.Common.{◌∙◌}
use Rattle.tv_builder.proofs.Documents.{same_document}
use Rattle.tv_doc.proofs.document.CompactDoc.field_values.Goals as goal

pub returns : goal.returns
returns c =
    let d = c.args.self.now.values in
    let pairs = c.new.result in
    same_document pairs.heap.now d.heap.items pairs.pairs.now d.pairs.items pairs.held d.document (c.new.ensures.heap ∙ c.as_slice.ensures) (c.new.ensures.pairs ∙ c.as_slice-2.ensures.value)
