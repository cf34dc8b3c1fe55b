use Rattle.std.proofs.Common.{sym, ◌∙◌}
use Rattle.std.proofs.lemmas.Map.Text.{is_eq-slice_cmp}
use Rattle.std.proofs.lemmas.Slice.Eq.{bytes_eq-Decides}
use Rattle.tv_term.proofs.laws.comparisons_of_terms_agree.Goals as goal

pub returns-clause-ties : goal.returns-clause-ties
returns-clause-ties c a b =
    (λ e. (bytes_eq-Decides a b).0 (sym (is_eq-slice_cmp a b) ∙ e), λ e. is_eq-slice_cmp a b ∙ (bytes_eq-Decides a b).1 e)
