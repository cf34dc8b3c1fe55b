use Rattle.tv_base.proofs.Lending.{passed}
use Rattle.tv_base.proofs.slice_source.SliceSourceByteSource.pass.Goals as goal

pub returns-clause-bytes : goal.returns-clause-bytes
returns-clause-bytes c = passed c.args.self.now.rest.now c.args.len c.if-len-self.false
