use Rattle.tv_base.proofs.Shortest.{signed_bytes_encode}
use Rattle.tv_base.proofs.laws.signed_numbers_encode.Goals as goal

pub returns : goal.returns
returns c = signed_bytes_encode
