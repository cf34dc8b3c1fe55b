use Rattle.std.proofs.Common.{◌-◌}
use Rattle.tv_base.specs.Take.{told}
use Rattle.tv_base.proofs.ItemLoop.{with_prefix}
use Rattle.tv_base.proofs.TakeSteps.{SoFar}
use Rattle.tv_reader.specs.Leaves.{tokens_at}
use Rattle.tv_reader.proofs.encoded_tokens.gather_tokens.Given as goal

abbrev pub invariant-loop : goal.invariant-loop
invariant-loop g l =
    let source = g.S.ByteSource in
    SoFar (told source.is_known) (λ p. source.left p.source) (λ p. p.count) (λ p. source.failures p.source) (record { source = l.initial.source; count = l.initial.count }) (record { source = l.source; count = l.count })
    (tokens_at l.announced) (λ whole. with_prefix (g.G.TokenBuffer.tokens l.tokens) (tokens_at (l.announced - l.counter) whole))
