use Rattle.std.proofs.Common.{◌≡◌, ◌∙◌, ℕ, Bool, true, false, List, ap, nat_eq, not, refl, sym}
use Rattle.std.specs.Cmp.Lexicographic.{pointwise}
use Rattle.std.proofs.lemmas.Result.{err_from_is_err_and}
use Rattle.tv_lines.proofs.Merging.{taken, taken_error}
use Rattle.tv_lines.proofs.term_runs.RunReader.take.Goals as goal

not_false : (b : Bool) → not b ≡ false → b ≡ true
not_false true is = refl
not_false false is = sym is

pub returns-in_err-advance-clause-takes : goal.returns-in_err-advance-clause-takes
returns-in_err-advance-clause-takes g c = λ known pairs left.
    let p = err_from_is_err_and c.from_residual.result c.from_residual.ensures.1 in
    rw (p.1, p.2) (taken_error g.S.ByteSource c.args.self.now pairs c.in_err-advance.field-0.0 left c.if-not-self.false (c.in_err-advance.ensures.takes known))

pub returns-clause-takes : goal.returns-clause-takes
returns-clause-takes g c = λ known pairs left.
    let same : pointwise nat_eq c.args.self.now.term.items c.args.term.now ≡ true = ap (λ (l : List ℕ). pointwise nat_eq l c.args.term.now) (sym c.as_slice.ensures.value) ∙ not_false _ (sym c.ne.ensures ∙ c.if-ne.false) in
    taken g.S.ByteSource c.args.term.now c.args.self.now c.advance.new.self pairs c.in_ok-advance.field-0 left c.if-not-self.false same (c.in_ok-advance.ensures.takes known) c.in_ok-advance.ensures.has_pair
