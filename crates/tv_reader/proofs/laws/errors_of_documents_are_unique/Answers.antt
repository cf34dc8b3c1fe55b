use Rattle.tv_reader.specs.Legacy.{Legacy, ErrorInLegacy}
use Rattle.tv_reader.proofs.UniqueLegacy.{one_legacy, legacy_excludes, single_legacy}
use Rattle.tv_reader.proofs.laws.errors_of_documents_are_unique.Goals as goal
use Rattle.tv_format.proofs.SingleTrees.{single_document}

pub returns : goal.returns
returns c = λ v bytes r s f g. (single_document Legacy ErrorInLegacy v one_legacy legacy_excludes single_legacy).single bytes r s f g
