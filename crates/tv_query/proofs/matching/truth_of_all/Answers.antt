use Rattle.std.proofs.Common.{◌≡◌, Bool, Some, ap, refl, slice_get, subst, sym, ◌∙◌}
use Rattle.std.proofs.lemmas.Option.{slice_get-get_or}
use Rattle.tv_query.proofs.Running.{matched, run_next}
use Rattle.tv_query.specs.Matching.{IsTold}
use Rattle.tv_query.proofs.matching.truth_of_all.Goals as goal

pub loop-index-preserved : goal.loop-index-preserved
loop-index-preserved c = λ terms told.
    let l = c.loop-index in
    let steps = c.args.steps.now in
    let step = c.index-steps-index.result in
    let at : slice_get steps l.index ≡ Some step = slice_get-get_or steps l.index step c.loop-index-test.true ∙ ap Some (sym c.index-steps-index.is) in
    run_next terms steps steps l.index step l.truths.items c.truth_of-truth.new.truths.items c.push.new.self.items c.truth_of-truth.result
    refl c.loop-index-test.true c.index-steps-index.is (l.invariant terms told)
    (c.truth_of-truth.ensures terms (subst (λ (b : Bool). IsTold terms step b) (sym c.told_at.ensures) (told l.index step at))) c.in_ok-push.ensures.items

pub returns : goal.returns
returns c = λ terms tree told is.
    let l = c.loop-index in
    matched terms c.args.steps.now tree l.index l.truths.items c.last_truth.new.truths.items c.last_truth.result c.loop-index-test.false (l.invariant terms told) is c.last_truth.ensures
