use Rattle.tv_options.proofs.flag_options.FlagOptionsFromSchemaFlagList.from.Goals as goal

pub returns : goal.returns
returns g c = (c.into-head.result, c.into-tail.result, c.into-head.ensures, c.into-tail.ensures, cc)
