use Rattle.std.proofs.Common.{◌≡◌, ◌+◌, ◌-◌, ◌<◌, ◌∙◌, ap, arith, drop, false, get_or, length, refl, sym, take}
use Rattle.std.proofs.lemmas.List.{get_or_read_under, length-drop}
use Rattle.tv_term.specs.Within.{is_below}
use Rattle.tv_term.proofs.WithinRanges.{point_in_part, rising_before, rising_behind, rising_parted}
use Rattle.tv_term.proofs.range.count_below_by_doubling.Goals as goal
use Rattle.tv_term.proofs.range.count_below_by_doubling.Goals.{then-loop-step-test+else-is_below, else-loop-step-test}

pub returns-clause-exact : goal.returns-clause-exact
returns-clause-exact g c = λ rising.
    let bytes = g.T.AsSlice.items in
    let terms = c.args.terms.now in
    let bound = c.args.bytes.now in
    let start = c.loop-step.below in
    let size = c.min.result in
    let rest : c.split_at.result.1.now ≡ drop start terms = c.split_at.ensures.back in
    let part : c.split_at-2.result.0.now ≡ take size (drop start terms) = c.split_at-2.ensures.front ∙ ap (take size) rest in
    let left : length c.split_at.result.1.now ≡ length terms - start = ap length rest ∙ length-drop start terms in
    let behind : (d : g.row.T.Denot) → start + size < length terms → is_below (bytes (get_or terms (start + size) d)) bound ≡ false =
    λ d inside. elim c.loop-step-test.branch [
      | then-loop-step-test+else-is_below w ↦
          let same : start + (c.loop-step.step - 1) ≡ start + size = omega (arith, w.loop-step-test.true, c.min.ensures, left) in
          let read = get_or_read_under terms (start + (c.loop-step.step - 1)) (length terms) w.index-terms-below.result d w.index-terms-below.is (omega (arith, same, inside)) refl in
          ap (λ i. is_below (bytes (get_or terms i d)) bound) (sym same) ∙ sym (ap (λ t. is_below (bytes t) bound) read) ∙ sym (ap (λ b. is_below b bound) w.as_slice.ensures)
          ∙ sym w.is_below.ensures ∙ w.if-is_below.false
      | else-loop-step-test w ↦ absurd (omega (arith, w.loop-step-test.false, c.min.ensures, left, inside))
    ] in
    point_in_part (λ t. is_below (bytes t) bound) terms start size c.count_below.result (rising_parted bytes terms bound rising) c.loop-step.invariant.inside
    c.loop-step.invariant.last behind (rw part at c.count_below.ensures.within) (rw part at c.count_below.ensures.exact (rising_before bytes (drop start terms) size (rising_behind bytes terms start rising)))
