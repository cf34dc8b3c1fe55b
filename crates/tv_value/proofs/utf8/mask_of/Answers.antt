use Rattle.tv_value.proofs.Utf8Prefixes.{mask_is}
use Rattle.tv_value.proofs.utf8.mask_of.Goals as goal

pub returns : goal.returns
returns c = mask_is c.args.len c.requires
