use Rattle.tv_heap.specs.ReadsLaws.{one_tree}
use Rattle.tv_heap.proofs.laws.places_read_as_one_tree.Goals as goal

pub returns : goal.returns
returns c = one_tree
