use Rattle.std.proofs.Common.{◌∙◌}
use Rattle.tv_term.proofs.Terms.{terms-order}
use Rattle.tv_term.proofs.laws.terms_compare_as_fields_and_values.Goals as goal

pub returns : goal.returns
returns c f g a b p q = c.cmp.ensures ∙ terms-order c.args.one.now c.args.other.now f g a b p q
