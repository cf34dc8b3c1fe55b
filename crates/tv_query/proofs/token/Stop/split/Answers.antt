use Rattle.tv_query.specs.Tokens.{stops_at}
use Rattle.tv_query.proofs.Words.{up_to}
use Rattle.tv_query.proofs.token.Stop.split.Goals as goal

pub returns : goal.returns
returns c =
    let l = rw c.as_bytes.ensures.value at c.len_within.ensures in
    up_to (stops_at c.args.self) c.args.text.now c.split_at.result.0.now c.split_at.result.1.now c.len_within.result l.before l.ended c.split_at.ensures.front c.split_at.ensures.back
