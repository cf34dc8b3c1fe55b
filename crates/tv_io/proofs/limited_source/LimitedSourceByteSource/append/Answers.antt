use Rattle.std.proofs.Common.{arith}
use Rattle.tv_io.proofs.Limiting.{moves_within}
use Rattle.tv_io.proofs.limited_source.LimitedSourceByteSource.append.Goals as goal

pub returns-clause-bytes : goal.returns-clause-bytes
returns-clause-bytes g c = λ told.
    let append = c.in_ok-count.ensures in
    moves_within c.args.self.now.limit c.args.most c.within-most.result c.in_ok-count.count _ _ _ _ (append.bytes told) (omega (arith, append.bound, c.within-most.ensures.limit)) (λ none wanted. omega (arith, c.within-most.ensures.some))
