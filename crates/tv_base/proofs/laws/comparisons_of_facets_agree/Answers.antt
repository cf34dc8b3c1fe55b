use Rattle.std.proofs.Common.{sym, ◌∙◌}
use Rattle.std.proofs.lemmas.Map.Text.{is_eq-slice_cmp}
use Rattle.std.proofs.lemmas.Slice.Eq.{bytes_eq-Decides}
use Rattle.tv_base.proofs.laws.comparisons_of_facets_agree.Goals as goal

pub returns-clause-ties : goal.returns-clause-ties
returns-clause-ties c f g =
    (λ e. (bytes_eq-Decides f g).0 (sym (is_eq-slice_cmp f g) ∙ e), λ e. is_eq-slice_cmp f g ∙ (bytes_eq-Decides f g).1 e)
