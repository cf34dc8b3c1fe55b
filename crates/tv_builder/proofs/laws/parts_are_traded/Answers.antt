use Rattle.tv_format.specs.Encoding.{NoLegacy}
use Rattle.tv_builder.proofs.Grammar.{trades_sound}
use Rattle.tv_builder.proofs.laws.parts_are_traded.Goals as goal

pub returns : goal.returns
returns c = λ v ps qs b t h. trades_sound NoLegacy v ps qs b t h
