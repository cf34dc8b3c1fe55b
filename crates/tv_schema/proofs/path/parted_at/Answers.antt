use Rattle.std.proofs.Common.{◌≡◌, get_or, arith, rules}
use Rattle.std.proofs.lemmas.Str.{IsCharBoundary-after_ascii}
use Rattle.tv_schema.proofs.path.parted_at.Goals as goal

pub range_from-requires : goal.range_from-requires
range_from-requires c = λ _.
    let dot : get_or c.args.path.now c.args.place 0 ≡ 46 = search rules in
    IsCharBoundary-after_ascii c.args.path.now c.args.place c.utf8.path c.requires (omega arith)
