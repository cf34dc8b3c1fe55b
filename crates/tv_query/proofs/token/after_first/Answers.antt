use Rattle.std.proofs.Common.{◌<◌, length, arith}
use Rattle.std.proofs.lemmas.Grind.{common_steps}
use Rattle.std.proofs.lemmas.Str.{IsCharBoundary-after_ascii}
use Rattle.tv_query.proofs.token.after_first.Goals as goal

pub split_at-requires : goal.split_at-requires
split_at-requires c =
    let some : 0 < length c.args.text.now = grind (arith, common_steps) in
    IsCharBoundary-after_ascii c.args.text.now 0 c.utf8.text some c.requires
