use Rattle.std.proofs.Common.{subst}
use Rattle.tv_term.specs.Range.{HasPrefixed}
use Rattle.tv_indexing.proofs.BelowSteps.{with_below}
use Rattle.tv_indexing.proofs.text_range.range_with_below.Goals as goal

pub returns : goal.returns
returns c =
    let m = c.in_ok-term.ensures in
    let all = c.in_ok-all.all in (
      m.0,
      m.1,
      m.2,
      with_below all c.in_ok-between.field-0 c.args.field.id c.args.text.now m.0 m.1 c.in_ok-term.term c.in_ok-end.end m.3 (subst (λ s. HasPrefixed s all) c.serialized_term.ensures c.in_ok-all.ensures) c.in_ok-between.ensures c.args.field_type.now m.2
          c.in_ok-end.ensures,
    )
