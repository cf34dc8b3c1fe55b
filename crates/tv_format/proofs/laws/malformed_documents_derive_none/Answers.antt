use Rattle.tv_format.specs.Encoding.{NoLegacy}
use Rattle.tv_format.specs.InputError.{NoErrorInLegacy}
use Rattle.tv_format.proofs.Trees.{no_legacy_reads}
use Rattle.tv_format.proofs.ExcludingTrees.{document_excludes, no_legacy_excludes}
use Rattle.tv_format.proofs.laws.malformed_documents_derive_none.Goals as goal

pub returns : goal.returns
returns c = λ v bytes cause d f p. (document_excludes NoLegacy NoErrorInLegacy v no_legacy_reads no_legacy_excludes d).excludes bytes p.prefix p.rest cause f p.encoded p.joined
