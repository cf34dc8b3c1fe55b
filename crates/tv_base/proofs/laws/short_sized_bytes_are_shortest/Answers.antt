use Rattle.tv_base.proofs.Shortest.{sized_shortest}
use Rattle.tv_base.proofs.laws.short_sized_bytes_are_shortest.Goals as goal

pub returns : goal.returns
returns c = sized_shortest
