use Rattle.tv_format.specs.Encoding.{NoLegacy}
use Rattle.tv_format.specs.InputError.{NoErrorInLegacy}
use Rattle.tv_format.proofs.Trees.{no_legacy_reads}
use Rattle.tv_format.proofs.ExcludingTrees.{no_legacy_excludes}
use Rattle.tv_format.proofs.SingleTrees.{single_document, single_no_legacy}
use Rattle.tv_format.proofs.laws.errors_of_documents_are_unique.Goals as goal

pub returns : goal.returns
returns c = λ v bytes r s f g. (single_document NoLegacy NoErrorInLegacy v no_legacy_reads no_legacy_excludes single_no_legacy).single bytes r s f g
