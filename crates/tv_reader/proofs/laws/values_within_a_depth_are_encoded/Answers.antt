use Rattle.tv_reader.proofs.Depths.{within_encodes}
use Rattle.tv_reader.proofs.laws.values_within_a_depth_are_encoded.Goals as goal

pub returns : goal.returns
returns c = λ v levels bytes t h. within_encodes v levels t bytes h
