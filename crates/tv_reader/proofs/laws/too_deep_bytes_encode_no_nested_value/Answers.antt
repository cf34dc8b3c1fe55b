use Rattle.tv_reader.proofs.Depths.{opens_excludes}
use Rattle.tv_reader.proofs.Nested.{nested_within}
use Rattle.tv_reader.proofs.laws.too_deep_bytes_encode_no_nested_value.Goals as goal

pub returns : goal.returns
returns c = λ v levels bytes more prefix rest t o h nests same. opens_excludes v levels bytes more prefix rest t o (nested_within v levels t prefix h nests) same
