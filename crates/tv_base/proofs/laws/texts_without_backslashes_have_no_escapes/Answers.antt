use Rattle.tv_base.proofs.Unescaping.{without_escapes-plain}
use Rattle.tv_base.proofs.laws.texts_without_backslashes_have_no_escapes.Goals as goal

pub returns : goal.returns
returns c = without_escapes-plain
