use Rattle.tv_format.specs.Encoding.{NoLegacy}
use Rattle.tv_format.proofs.Trees.{one_document, no_legacy_reads}
use Rattle.tv_format.proofs.laws.documents_have_one_reading.Goals as goal

pub returns : goal.returns
returns c = λ v. one_document NoLegacy v no_legacy_reads
