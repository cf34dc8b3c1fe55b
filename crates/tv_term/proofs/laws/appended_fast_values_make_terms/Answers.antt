use Rattle.tv_term.proofs.Terms.{completed}
use Rattle.tv_term.proofs.Making.{without_nul}
use Rattle.tv_term.proofs.laws.appended_fast_values_make_terms.Goals as goal

pub returns : goal.returns
returns g c = record {
  made =
      completed _ _ c.args.field.id _ (g.T.FastValue.as_value c.args.value) c.in_ok-term.ensures.made
      c.in_ok-append_type_and_fast_value.ensures.appended;
  errors = without_nul _ c.in_ok-term.ensures.errors.has_no_nul tt;
}
