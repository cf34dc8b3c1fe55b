use Rattle.tv_base.proofs.Shortest.{text_encodes}
use Rattle.tv_base.proofs.laws.short_texts_encode.Goals as goal

pub returns : goal.returns
returns c = text_encodes
