use Rattle.tv_value.proofs.Found.{key_found}
use Rattle.tv_value.proofs.in_place.key_at.Goals as goal

pub returns : goal.returns
returns c =
    key_found c.args.version c.args.bytes.now c.in_ok-behind.behind.now c.in_ok-key.rest.now c.in_ok-key.key.now c.in_ok-behind.ensures.coded c.in_ok-behind.ensures.bare c.in_ok-key.ensures.found
