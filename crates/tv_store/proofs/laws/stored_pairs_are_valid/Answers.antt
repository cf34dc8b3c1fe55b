use Rattle.tv_store.proofs.StoredLaws.{stored_valid}
use Rattle.tv_store.proofs.laws.stored_pairs_are_valid.Goals as goal

pub returns : goal.returns
returns c = stored_valid
