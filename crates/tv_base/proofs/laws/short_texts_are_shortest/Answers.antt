use Rattle.tv_base.proofs.Shortest.{text_shortest}
use Rattle.tv_base.proofs.laws.short_texts_are_shortest.Goals as goal

pub returns : goal.returns
returns c = text_shortest
