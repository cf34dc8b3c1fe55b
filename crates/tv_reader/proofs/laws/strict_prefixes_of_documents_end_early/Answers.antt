use Rattle.std.proofs.Common.{◌++◌, refl}
use Rattle.tv_reader.specs.Legacy.{Legacy, ErrorInLegacy}
use Rattle.tv_reader.proofs.EarlyObjects.{early_legacy}
use Rattle.tv_reader.proofs.EarlyTrees.{early_document}
use Rattle.tv_reader.proofs.laws.strict_prefixes_of_documents_end_early.Goals as goal

pub returns : goal.returns
returns c = λ v prefix rest x p some. (early_document Legacy ErrorInLegacy v early_legacy x).early (prefix ++ rest) prefix rest p refl some
