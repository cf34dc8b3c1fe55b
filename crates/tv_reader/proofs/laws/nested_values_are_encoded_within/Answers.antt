use Rattle.tv_reader.proofs.Nested.{nested_within}
use Rattle.tv_reader.proofs.laws.nested_values_are_encoded_within.Goals as goal

pub returns : goal.returns
returns c = λ v levels bytes t h nests. nested_within v levels t bytes h nests
