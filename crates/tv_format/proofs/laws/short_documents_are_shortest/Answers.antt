use Rattle.tv_format.proofs.Shortest.{document_shortest}
use Rattle.tv_format.proofs.laws.short_documents_are_shortest.Goals as goal

pub returns : goal.returns
returns c = λ v w. document_shortest v w
