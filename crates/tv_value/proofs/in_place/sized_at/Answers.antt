use Rattle.tv_format.proofs.Prefixes.{sized_found}
use Rattle.tv_value.proofs.in_place.sized_at.Goals as goal

pub returns : goal.returns
returns c =
    sized_found c.args.bytes.now c.in_ok-len.behind_len.now c.split_at.result.0.now c.split_at.result.1.now c.in_ok-len.len c.in_ok-len.ensures.found c.if-behind_len-len.false c.split_at.ensures.front c.split_at.ensures.back
