use Rattle.std.proofs.Common.{◌≡◌, rules}
use Rattle.tv_base.specs.Number.{eight_bytes}
use Rattle.tv_base.proofs.Growing.{extends_ok, extends_within}
use Rattle.tv_base.proofs.Widths.{eight_bytes_is}
use Rattle.tv_heap.proofs.write.push_eight.Goals as goal

pub returns-clause-ok : goal.returns-clause-ok
returns-clause-ok c =
    let same : c.to_le_bytes.result ≡ eight_bytes c.args.number = search (rules, eight_bytes_is) in
    extends_ok c.extend_from_chunk.result _ _ same c.extend_from_chunk.ensures

pub returns-clause-grows : goal.returns-clause-grows
returns-clause-grows c =
    let same : c.to_le_bytes.result ≡ eight_bytes c.args.number = search (rules, eight_bytes_is) in
    extends_within c.extend_from_chunk.result _ _ same c.extend_from_chunk.ensures
