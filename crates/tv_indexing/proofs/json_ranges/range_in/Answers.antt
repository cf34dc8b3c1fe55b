use Rattle.std.proofs.Common.{refl}
use Rattle.tv_indexing.proofs.json_ranges.range_in.Goals as goal

pub returns-in_ok-range_of_kind-in-Some-last-clause-made :
    goal.returns-in_ok-range_of_kind-in-Some-last-clause-made
returns-in_ok-range_of_kind-in-Some-last-clause-made c =
    let m = c.in_ok-range_of_kind-in-Some-last.ensures.made in
    rw (c.in-Some.is, c.in-Some-last.is) (m.0, m.1, m.2, m.3, c.in_ok-range_of_kind-in-Some-last.field-0, refl, m.4)
