use Rattle.tv_reader.specs.Legacy.{Legacy}
use Rattle.tv_reader.proofs.laws.short_documents_encode.Goals as goal
use Rattle.tv_format.proofs.ShortEncodings.{short_document_encodes}

pub returns : goal.returns
returns c = λ v w. short_document_encodes Legacy v w
