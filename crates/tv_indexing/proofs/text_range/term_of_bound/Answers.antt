use Rattle.std.proofs.Common.{refl}
use Rattle.std.specs.declared.ops.Bound.TheVariants.{Included}
use Rattle.tv_indexing.specs.TextRange.{outer_bound}
use Rattle.tv_indexing.proofs.text_range.term_of_bound.Goals as goal

pub returns-in_ok-term_of_text-in-Included : goal.returns-in_ok-term_of_text-in-Included
returns-in_ok-term_of_text-in-Included c =
    let m = c.in_ok-term_of_text-in-Included.ensures in (Included m.1, rw c.in-Included.is (m.0, m.1, m.2, refl), m.3)

pub returns-in_ok-term-in-Excluded : goal.returns-in_ok-term-in-Excluded
returns-in_ok-term-in-Excluded c =
    let m = c.in_ok-term-in-Excluded.ensures in
    (outer_bound c.args.field_type.now m.1, rw c.in-Excluded.is (m.0, m.1, m.2, refl), c.outer_bound.ensures c.args.field.id m.1 m.3)
