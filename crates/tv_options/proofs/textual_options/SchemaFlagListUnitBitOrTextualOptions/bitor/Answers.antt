use Rattle.tv_options.proofs.textual_options.SchemaFlagListUnitBitOrTextualOptions.bitor.Goals as goal

pub returns : goal.returns
returns g c = (c.into-left.result, c.into-left.ensures, cc)
