use Rattle.tv_doc.specs.JsonObject.{object_values}
use Rattle.tv_doc.proofs.OneDocument.{made_alike}
use Rattle.tv_doc.proofs.laws.objects_make_one_document.Goals as goal

pub returns : goal.returns
returns c = λ schema members one other mine yours. made_alike (object_values schema members) one other mine.makes yours.makes
