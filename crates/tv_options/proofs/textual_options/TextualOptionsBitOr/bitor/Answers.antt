use Rattle.tv_options.proofs.textual_options.TextualOptionsBitOr.bitor.Goals as goal

pub returns : goal.returns
returns g c = (c.into-other.result, c.into-other.ensures, cc)
