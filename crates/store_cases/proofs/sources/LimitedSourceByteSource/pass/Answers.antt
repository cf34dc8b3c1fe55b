use Rattle.std.proofs.Common.{arith}
use Rattle.tv_base.proofs.Lending.{passed}
use Rattle.store_cases.proofs.sources.LimitedSourceByteSource.pass.Goals as goal

pub returns-clause-bytes : goal.returns-clause-bytes
returns-clause-bytes c = λ told. passed c.args.self.now.rest.now c.args.len (omega (arith, c.if-len-min.false, c.min.ensures))
