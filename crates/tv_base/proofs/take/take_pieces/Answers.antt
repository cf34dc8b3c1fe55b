use Rattle.std.proofs.Common.{arith, refl, []}
use Rattle.tv_base.specs.Take.{read_stop}
use Rattle.tv_base.proofs.TakeSteps.{SoFar-start, SoFar-returns, SoFar-ends}
use Rattle.tv_base.proofs.Chunks.{none}
use Rattle.tv_base.proofs.Appending.{none_left, piece_taken, piece_ends}
use Rattle.tv_base.proofs.take.take_pieces.Goals as goal

pub loop-missing-init : goal.loop-missing-init
loop-missing-init g c = record { so_far = SoFar-start _ _ _ _ _ _ _ (λ bytes. refl); longer = refl; few = omega arith }

pub returns-then-room-eq0-clause-takes : goal.returns-then-room-eq0-clause-takes
returns-then-room-eq0-clause-takes g c =
    let l = c.loop-missing in
    SoFar-ends read_stop _ _ _ refl (omega arith) (omega arith) (none_left l.bytes.items [] l.missing (omega arith) refl) l.invariant.so_far

pub returns-then-more-eq0-clause-takes : goal.returns-then-more-eq0-clause-takes
returns-then-more-eq0-clause-takes g c =
    let l = c.loop-missing in
    piece_ends _ l.bytes.items _ l.missing c.min-most.result c.in_ok-more.more c.if-more-eq0.true (omega arith) (omega arith) l.invariant.so_far c.in_ok-more.ensures.bytes c.in_ok-more.ensures.is_known c.in_ok-more.ensures.failures refl

pub loop-missing-preserved : goal.loop-missing-preserved
loop-missing-preserved g c =
    let l = c.loop-missing in
    record {
      so_far = piece_taken l.bytes.items _ l.missing _ c.in_ok-more.more (omega (arith, c.in_ok-more.ensures.bound)) l.invariant.so_far c.in_ok-more.ensures.bytes c.in_ok-more.ensures.is_known c.in_ok-more.ensures.failures refl;
      longer = omega (arith, l.invariant.longer, c.in_ok-more.ensures.longer, c.in_ok-more.ensures.bound);
      few = omega (arith, l.invariant.few, c.in_ok-more.ensures.bound);
    }

pub returns-clause-takes : goal.returns-clause-takes
returns-clause-takes g c = SoFar-returns read_stop _ _ (none c.loop-missing.bytes.items c.loop-missing.missing (omega arith)) c.loop-missing.invariant.so_far
