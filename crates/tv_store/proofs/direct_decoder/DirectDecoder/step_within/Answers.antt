use Rattle.std.proofs.Common.{refl}
use Rattle.tv_store.proofs.StepsPaid.{rests_paid}
use Rattle.tv_store.proofs.direct_decoder.DirectDecoder.step_within.Goals as goal

pub returns-then-is_done-clause-paid : goal.returns-then-is_done-clause-paid
returns-then-is_done-clause-paid g c = λ known. let d = c.args.self.now in rests_paid d d refl

pub returns-then-is_past-clause-paid : goal.returns-then-is_past-clause-paid
returns-then-is_past-clause-paid g c = λ known. rests_paid c.args.self.now c.refuse.new.self c.refuse.ensures.reading
