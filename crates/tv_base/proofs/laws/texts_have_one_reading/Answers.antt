use Rattle.tv_base.proofs.Texts.{one_text}
use Rattle.tv_base.proofs.laws.texts_have_one_reading.Goals as goal

pub returns : goal.returns
returns c = one_text
