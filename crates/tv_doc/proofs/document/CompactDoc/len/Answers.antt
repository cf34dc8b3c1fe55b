use Rattle.std.proofs.Common.{arith}
use Rattle.tv_builder.proofs.Documents.{document_length}
use Rattle.tv_doc.proofs.document.CompactDoc.len.Goals as goal

pub returns : goal.returns
returns c = omega (arith, c.len.ensures, c.args.self.now.values.pairs.ok.0, document_length c.args.self.now.values)
