use Rattle.std.proofs.Common.{refl}
use Rattle.tv_reader.proofs.UniqueLegacy.{legacy_excludes}
use Rattle.tv_reader.proofs.laws.malformed_legacy_objects_encode_none.Goals as goal

pub returns : goal.returns
returns c = λ prefix rest cause entries f p. (legacy_excludes entries).excludes _ prefix rest cause f p refl
