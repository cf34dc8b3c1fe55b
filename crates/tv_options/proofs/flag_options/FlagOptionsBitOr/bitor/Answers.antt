use Rattle.tv_options.proofs.flag_options.FlagOptionsBitOr.bitor.Goals as goal

pub returns : goal.returns
returns g c = (c.into-other.result, c.into-other.ensures, cc)
