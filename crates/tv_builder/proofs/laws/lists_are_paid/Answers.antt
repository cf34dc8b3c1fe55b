use Rattle.tv_format.specs.Encoding.{NoLegacy}
use Rattle.tv_builder.proofs.Grammar.{frames_paid}
use Rattle.tv_builder.proofs.laws.lists_are_paid.Goals as goal

pub returns : goal.returns
returns c = λ v s b h. frames_paid NoLegacy v s b h
