use Rattle.tv_reader.proofs.UniqueLegacy.{begins_or_malformed}
use Rattle.tv_reader.proofs.laws.bytes_begin_a_legacy_object_or_are_malformed.Goals as goal

pub returns : goal.returns
returns c = begins_or_malformed
