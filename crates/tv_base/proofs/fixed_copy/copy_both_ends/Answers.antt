use Rattle.std.proofs.Common.{◌-◌, rules, length}
use Rattle.std.proofs.lemmas.List.{take_rest}
use Rattle.tv_base.proofs.Overlaps.{stored_ends}
use Rattle.tv_base.proofs.fixed_copy.copy_both_ends.Goals as goal

pub returns : goal.returns
returns g c =
    let part = c.args.part.now in
    stored_ends part g.row.N (search rules) c.requires.len.0 c.requires.len.1 c.copy_first.ensures
    (rw (take_rest part (length part - g.row.N)) at c.copy_first-2.ensures)
