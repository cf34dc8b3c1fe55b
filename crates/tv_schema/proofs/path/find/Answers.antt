use Rattle.std.proofs.Common.{arith}
use Rattle.tv_schema.proofs.LongPaths.{parted_within}
use Rattle.tv_schema.proofs.path.find.Goals as goal

pub loop-place-init : goal.loop-place-init
loop-place-init c =
    parted_within c.args.table.now c.args.path.now c.longest_prefix.result c.min-places.result c.longest_prefix.ensures (omega (arith, c.min-places.ensures, c.saturating_add.ensures))
    (λ less. omega (arith, less, c.min-places.ensures, c.saturating_add.ensures))
