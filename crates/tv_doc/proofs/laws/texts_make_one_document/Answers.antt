use Rattle.tv_doc.specs.InPlace.{in_place}
use Rattle.tv_doc.proofs.OneDocument.{texts_alike}
use Rattle.tv_doc.proofs.laws.texts_make_one_document.Goals as goal

pub returns-clause-returned : goal.returns-clause-returned
returns-clause-returned c = λ schema text one other mine yours. texts_alike schema text one other mine.parses yours.parses

pub returns-clause-left : goal.returns-clause-left
returns-clause-left c = λ schema text new twin one other mine yours. texts_alike schema text (in_place one new) (in_place other twin) mine.parses yours.parses
