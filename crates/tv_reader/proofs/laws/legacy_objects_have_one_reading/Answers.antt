use Rattle.tv_reader.proofs.UniqueLegacy.{one_legacy}
use Rattle.tv_reader.proofs.laws.legacy_objects_have_one_reading.Goals as goal

pub returns : goal.returns
returns c = λ a b x y m n p q e. one_legacy a b x y m n p q e
