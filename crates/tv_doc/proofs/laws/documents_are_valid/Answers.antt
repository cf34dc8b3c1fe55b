use Rattle.tv_doc.proofs.Valid.{document_valid}
use Rattle.tv_doc.proofs.laws.documents_are_valid.Goals as goal

pub returns : goal.returns
returns c = document_valid
