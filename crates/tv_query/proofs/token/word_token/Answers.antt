use Rattle.std.proofs.Common.{List, ℕ, ◌++◌, ap, ◌∙◌}
use Rattle.tv_query.specs.Refusals.{no_path, word_alone}
use Rattle.tv_query.specs.Tokens.{operates}
use Rattle.tv_query.proofs.Words.{is_empty, operator_some, word_some}
use Rattle.tv_query.proofs.token.word_token.Goals as goal

pub returns-in-Some-clause-refused : goal.returns-in-Some-clause-refused
returns-in-Some-clause-refused c = no_path (c.split.ensures.text_is ∙ ap (λ (l : List ℕ). l ++ c.split.result.1.now) (is_empty _ c.if-is_empty.ensures) ∙ c.in-Some.ensures)

pub returns-in-Some-operator-clause-found : goal.returns-in-Some-operator-clause-found
returns-in-Some-operator-clause-found c = operates (record { up_to = c.split.ensures; some = operator_some _ _ c.in-Some-operator.ensures; no_colon = c.in-None.ensures }) c.in-Some-operator.ensures

pub returns-in-None-operator-clause-refused : goal.returns-in-None-operator-clause-refused
returns-in-None-operator-clause-refused c = word_alone (record { up_to = c.split.ensures; some = word_some _ _ _ c.split.ensures c.requires.some c.requires.no_end c.in-None.ensures; no_colon = c.in-None.ensures }) c.in-None-operator.ensures
