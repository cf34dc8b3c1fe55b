use Rattle.tv_reader.proofs.Deciding.{document_or_error}
use Rattle.tv_reader.proofs.laws.bytes_derive_a_document_or_are_malformed.Goals as goal

pub returns : goal.returns
returns c = document_or_error
