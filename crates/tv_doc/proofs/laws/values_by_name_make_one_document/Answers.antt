use Rattle.tv_doc.specs.NamedPairs.{named_pairs}
use Rattle.tv_doc.proofs.OneDocument.{pairs_alike}
use Rattle.tv_doc.proofs.laws.values_by_name_make_one_document.Goals as goal

pub returns : goal.returns
returns c = λ schema named one other mine yours. pairs_alike (named_pairs schema named) one other mine.makes yours.makes
