use Rattle.tv_json.proofs.AcceptedValues.{read_is_syntax}
use Rattle.tv_json.proofs.laws.texts_that_are_read_have_the_syntax.Goals as goal

pub returns : goal.returns
returns c = read_is_syntax
