use Rattle.tv_reader.proofs.Depths.{opens_excludes}
use Rattle.tv_reader.proofs.laws.too_deep_bytes_encode_none_within.Goals as goal

pub returns : goal.returns
returns c = λ v levels bytes more prefix rest t o h same. opens_excludes v levels bytes more prefix rest t o h same
