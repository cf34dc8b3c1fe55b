use Rattle.tv_json.proofs.laws.the_syntax_is_the_grammar.Goals as goal
use Rattle.tv_json.proofs.Derivations.{derived}
use Rattle.tv_json.proofs.Derived.{passes_whole}

pub returns : goal.returns
returns c = λ text. (derived text, passes_whole text)
