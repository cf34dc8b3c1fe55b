use Rattle.tv_reader.proofs.Deciding.{value_or_error}
use Rattle.tv_reader.proofs.laws.bytes_begin_a_value_or_are_malformed.Goals as goal

pub returns : goal.returns
returns c = value_or_error
