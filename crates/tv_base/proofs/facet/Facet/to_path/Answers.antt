use Rattle.std.proofs.Common.{◌∙◌, arith}
use Rattle.std.proofs.lemmas.Iterator.Consumers.{map_from_collect}
use Rattle.std.proofs.lemmas.Iterator.Splits.{YieldsList-from_str_split}
use Rattle.tv_base.proofs.facet.Facet.to_path.Goals as goal

pub returns : goal.returns
returns c = map_from_collect _ c.collect.ensures.ran (YieldsList-from_str_split 0 c.args.self.now (omega arith) (c.split.ensures.text ∙ c.encoded_str.ensures) c.split.ensures.has_more c.split.ensures.pattern)
