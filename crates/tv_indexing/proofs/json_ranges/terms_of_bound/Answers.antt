use Rattle.std.specs.declared.ops.Bound.TheVariants.{Excluded, Included}
use Rattle.tv_indexing.proofs.json_ranges.terms_of_bound.Goals as goal

pub returns-in_ok-term_at-in-Included-clause-made :
    goal.returns-in_ok-term_at-in-Included-clause-made
returns-in_ok-term_at-in-Included-clause-made c = let m = c.in_ok-term_at-in-Included.ensures.made in (Included m.0, rw c.in-Included.is m.1, m.2)

pub returns-in_ok-term_at-in-Excluded-clause-made :
    goal.returns-in_ok-term_at-in-Excluded-clause-made
returns-in_ok-term_at-in-Excluded-clause-made c = let m = c.in_ok-term_at-in-Excluded.ensures.made in (Excluded m.0, rw c.in-Excluded.is m.1, m.2)
