use Rattle.tv_base.proofs.Shortest.{sized_encodes}
use Rattle.tv_base.proofs.laws.short_sized_bytes_encode.Goals as goal

pub returns : goal.returns
returns c = sized_encodes
