use Rattle.tv_options.proofs.flag_options.SchemaFlagListUnitBitOrFlagOptions.bitor.Goals as goal

pub returns : goal.returns
returns g c = (c.into-left.result, c.into-left.ensures, cc)
