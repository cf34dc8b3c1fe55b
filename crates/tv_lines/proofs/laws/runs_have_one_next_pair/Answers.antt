use Rattle.tv_lines.proofs.OneMerge.{merges_one}
use Rattle.tv_lines.proofs.laws.runs_have_one_next_pair.Goals as goal

pub returns : goal.returns
returns g c = λ readers others runs pair other more also h k. merges_one g.S.ByteSource readers others runs pair other more also h k
