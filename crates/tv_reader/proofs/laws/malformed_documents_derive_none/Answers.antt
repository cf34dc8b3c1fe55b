use Rattle.tv_reader.specs.Legacy.{Legacy, ErrorInLegacy}
use Rattle.tv_reader.proofs.UniqueLegacy.{one_legacy, legacy_excludes}
use Rattle.tv_reader.proofs.laws.malformed_documents_derive_none.Goals as goal
use Rattle.tv_format.proofs.ExcludingTrees.{document_excludes}

pub returns : goal.returns
returns c = λ v bytes cause d f p. (document_excludes Legacy ErrorInLegacy v one_legacy legacy_excludes d).excludes bytes p.prefix p.rest cause f p.encoded p.joined
