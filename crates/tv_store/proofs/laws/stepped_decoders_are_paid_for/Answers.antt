use Rattle.std.proofs.Common.{arith, refl, subst, sym}
use Rattle.tv_base.specs.Stop.{Taken}
use Rattle.tv_base.proofs.TakeSteps.{Taken_none, Taken_then}
use Rattle.tv_store.specs.Decoder.{IsStepped}
use Rattle.tv_store.proofs.StepsPaid.{one_more, paid_at_start, still_paid, still_known, still_counted}
use Rattle.tv_store.proofs.laws.stepped_decoders_are_paid_for.Goals as goal

pub loop-init : goal.loop-init
loop-init g c =
    let source = g.S.ByteSource in
    let left = source.left c.args.source.now in
    let d = c.new-decoder in
    record {
      stepped = record {
        start = d.result;
        nothing = d.ensures.parts;
        uncounted = d.ensures.count;
        not_failed = d.ensures.not_failed;
        same_version = d.ensures.version;
        stepped = (refl, refl);
      };
      known = λ known. known;
      taken = λ known. subst (λ n. Taken left left 0 n) (sym d.ensures.count) (Taken_none left 0);
      paid = λ known none. paid_at_start d.result d.ensures.not_failed d.ensures.parts d.ensures.count;
    }

pub loop-preserved : goal.loop-preserved
loop-preserved g c =
    let source = g.S.ByteSource in
    let l = c.loop in
    let step = c.step.ensures in
    record {
      stepped = one_more source step.steps l.invariant.stepped;
      known = λ known. still_known source step.steps (l.invariant.known known);
      taken = λ known. Taken_then (l.invariant.taken known) (still_counted source step.steps (l.invariant.known known));
      paid = λ known none. still_paid source step.steps (step.paid (l.invariant.known known)) (step.seen (l.invariant.known known)) (l.invariant.known known) (l.invariant.paid known) none;
    }

pub returns-clause-stepped : goal.returns-clause-stepped
returns-clause-stepped g c = subst (λ k. IsStepped g.S.ByteSource c.args.version k c.args.source.now c.loop.source c.loop.decoder) (omega arith) c.loop.invariant.stepped

pub returns-clause-paid : goal.returns-clause-paid
returns-clause-paid g c = λ known none. (c.loop.invariant.paid known none).paid
