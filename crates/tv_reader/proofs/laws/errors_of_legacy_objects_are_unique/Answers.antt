use Rattle.tv_reader.proofs.UniqueLegacy.{single_legacy}
use Rattle.tv_reader.proofs.laws.errors_of_legacy_objects_are_unique.Goals as goal

pub returns : goal.returns
returns c = λ bytes a b f g. single_legacy.single bytes a b f g
