use Rattle.tv_doc.proofs.Additions.{within_room}
use Rattle.tv_doc.proofs.laws.heaps_are_within_room.Goals as goal

pub returns : goal.returns
returns c = λ d. within_room d
