use Rattle.std.proofs.Common.{◌≡◌, drop, take, ap, subst, sym, ◌∙◌}
use Rattle.tv_term.specs.Range.{IsInRange}
use Rattle.tv_term.specs.Within.{HasJust}
use Rattle.tv_term.proofs.WithinRanges.{just_between, just_from, rising_behind}
use Rattle.tv_term.proofs.range.TermRange.within.Goals as goal

pub returns-in_default : goal.returns-in_default
returns-in_default g c = λ rising.
    let bytes = g.T.AsSlice.items in
    let terms = c.args.terms.now in
    let range = c.args.self.now in
    subst (λ end. HasJust bytes (IsInRange range.start.items end) terms c.split_at.result.1.now) (sym c.in_default.is)
    (just_from bytes terms c.split_at.result.1.now range.start.items c.count_below.result c.count_below.ensures.within
    (rw c.as_slice.ensures.value at c.count_below.ensures.exact rising) c.split_at.ensures.back)

pub returns : goal.returns
returns g c = λ rising.
    let bytes = g.T.AsSlice.items in
    let terms = c.args.terms.now in
    let range = c.args.self.now in
    let n = c.count_below.result in
    let from : c.split_at.result.1.now ≡ drop n terms = c.split_at.ensures.back in
    let second = rw (from, c.as_slice-2.ensures.value) at c.count_below_by_doubling.ensures.exact in
    subst (λ end. HasJust bytes (IsInRange range.start.items end) terms c.split_at-2.result.0.now) (sym c.in-Some.is)
    (just_between bytes terms c.split_at-2.result.0.now range.start.items c.in-Some.end n c.count_below_by_doubling.result c.count_below.ensures.within (rw from at c.count_below_by_doubling.ensures.within)
    (rw c.as_slice.ensures.value at c.count_below.ensures.exact rising) (second (rising_behind bytes terms n rising)) (c.split_at-2.ensures.front ∙ ap (take c.count_below_by_doubling.result) from))
