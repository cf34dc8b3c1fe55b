use Rattle.std.proofs.Common.{ap, refl, sym, ◌∙◌}
use Rattle.tv_base.specs.Reading.{bytes_at, more_at, sized_at}
use Rattle.tv_base.proofs.Chunks.{start}
use Rattle.tv_base.proofs.TakeSteps.{SoFar-start, SoFar-is, SoFar-step, SoFar-then}
use Rattle.tv_base.proofs.take.take_sized.Goals as goal

pub returns : goal.returns
unfolding sized_at
returns g c =
    let len = c.in_ok-len.len in
    let step = SoFar-step (λ x. bytes_at x.0 x.1) (λ _. refl) (SoFar-start _ _ _ _ _ sized_at sized_at (λ _. refl)) c.in_ok-len.ensures.takes in
    record { takes = SoFar-then (SoFar-is (more_at c.clear.new.self.items len) (λ w. start len w ∙ ap (λ p. more_at p len w) (sym c.clear.ensures.items)) step) c.take_pieces.ensures.takes }
