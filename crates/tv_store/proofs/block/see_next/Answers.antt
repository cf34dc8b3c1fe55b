use Rattle.tv_store.proofs.BlocksWithin.{one_taken}
use Rattle.tv_store.proofs.block.see_next.Goals as goal

pub returns-in-Ok-Some-clause-counted : goal.returns-in-Ok-Some-clause-counted
returns-in-Ok-Some-clause-counted g c = λ told.
    let given = rw c.in-Ok-Some.field-0-is at c.in-Ok-Some.ensures.bytes in
    one_taken c.in-Ok-Some.field-0-0 _ _ (given told)
