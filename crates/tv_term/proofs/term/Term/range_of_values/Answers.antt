use Rattle.std.proofs.Common.{subst}
use Rattle.std.specs.Range.Bound.{bound_map}
use Rattle.tv_term.specs.Range.{AreTermsOf, HasTerms, IsOfType}
use Rattle.tv_term.proofs.ValueRanges.{bound-values, values_between}
use Rattle.tv_term.proofs.term.Term.range_of_values.Goals as goal

pub returns : goal.returns
returns g c = record {
  made =
      λ has_bounds. let id = c.args.field.id in
      let t = g.T.FastValue.type_tag in
      let value = g.T.FastValue.as_value in
      let lo = g.B.RangeBounds.start_bound c.args.values.now in
      let hi = g.B.RangeBounds.end_bound c.args.values.now in
      let starts = subst (λ b. AreTermsOf id b c.in_ok-start.start) (bound-values (λ x. x.now) value c.start_bound.result lo (c.start_bound.ensures has_bounds)) c.in_ok-start.ensures in
      let ends = subst (λ b. AreTermsOf id b c.in_ok-end.end) (bound-values (λ x. x.now) value c.end_bound.result hi (c.end_bound.ensures has_bounds)) c.in_ok-end.ensures in
      let all_typed = subst (λ z. HasTerms (IsOfType id z) c.in_ok-all.all) c.to_type.ensures c.in_ok-all.ensures.made in
      values_between c.in_ok-all.all c.in_ok-between.field-0 id t (bound_map value lo) (bound_map value hi) c.in_ok-start.start c.in_ok-end.end all_typed starts ends c.in_ok-between.ensures;
  errors = tt;
}
