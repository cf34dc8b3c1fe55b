use Rattle.tv_json.proofs.DerivedValues.{syntax_is_read}
use Rattle.tv_json.proofs.laws.texts_with_the_syntax_are_read.Goals as goal

pub returns : goal.returns
returns c = syntax_is_read
