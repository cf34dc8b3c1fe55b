use Rattle.tv_builder.proofs.PairBuilding.{heap_stands}
use Rattle.tv_builder.proofs.laws.heaps_hold_what_came.Goals as goal

pub returns-clause-pairs : goal.returns-clause-pairs
returns-clause-pairs c = λ d. d.bytes

pub returns-clause-builders : goal.returns-clause-builders
returns-clause-builders c = λ b. heap_stands b
