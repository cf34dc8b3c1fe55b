use Rattle.tv_builder.specs.Builder.{kept_heap}
use Rattle.tv_builder.specs.OneState.{stands_of}
use Rattle.tv_builder.proofs.laws.states_stand_in_the_heap.Goals as goal

pub returns : goal.returns
returns c = λ b. (stands_of (kept_heap b) b.building b.state).1
