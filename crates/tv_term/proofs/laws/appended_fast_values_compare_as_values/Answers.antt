use Rattle.std.proofs.Common.{◌∙◌, sym}
use Rattle.tv_term.proofs.Terms.{json-values-order, fast-order}
use Rattle.tv_term.proofs.Making.{without_nul}
use Rattle.tv_term.proofs.laws.appended_fast_values_compare_as_values.Goals as goal

pub returns : goal.returns
returns g c = record {
  made =
      let laws = g.met.T.FastValue in
      let one = c.in_ok-one.ensures.made in
      let other = c.in_ok-other.ensures.made in
      let one_fits = one.value_fits.1 in
      let other_fits = other.value_fits.1 in
      c.cmp.ensures ∙ json-values-order _ _ c.args.field.id _ (g.T.FastValue.as_value c.args.one) (g.T.FastValue.as_value c.args.other) one other
      ∙ fast-order _ _ g.T.FastValue.type_tag _ _ one_fits other_fits (laws.stands c.args.one) (laws.stands c.args.other)
      (laws.is_small c.args.one one_fits) (laws.is_small c.args.other other_fits)
      ∙ sym (laws.is_ordered c.args.one c.args.other one_fits other_fits);
  errors = without_nul _ c.in_ok-one.ensures.errors.has_no_nul tt;
}
