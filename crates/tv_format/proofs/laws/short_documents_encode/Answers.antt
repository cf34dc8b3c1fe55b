use Rattle.tv_format.specs.Encoding.{NoLegacy}
use Rattle.tv_format.proofs.ShortEncodings.{short_document_encodes}
use Rattle.tv_format.proofs.laws.short_documents_encode.Goals as goal

pub returns : goal.returns
returns c = λ v w. short_document_encodes NoLegacy v w
