use Rattle.tv_store.proofs.StoredLaws.{stored_room}
use Rattle.tv_store.proofs.laws.stored_pairs_need_no_more_room.Goals as goal

pub returns : goal.returns
returns c = stored_room
