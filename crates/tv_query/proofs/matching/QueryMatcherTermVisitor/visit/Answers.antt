use Rattle.std.proofs.Common.{List, ℕ, [], ◌∷◌, ◌++◌, append_assoc, subst, sym}
use Rattle.tv_query.proofs.Telling.{told_same}
use Rattle.tv_query.specs.Matching.{AreTold}
use Rattle.tv_query.specs.declared.query.Step.{Step}
use Rattle.tv_query.proofs.matching.QueryMatcherTermVisitor.visit.Goals as goal

pub returns-clause-made : goal.returns-clause-made
returns-clause-made c = λ start terms taken. (
  taken.0,
  λ before told.
      let old = c.args.self.now in
      let steps = old.query.now.steps.items in
      let term = c.args.term.now in
      let filled = told_same (before ++ terms) steps old.wanted.items c.fill.new.wanted.items c.in_ok-fill.ensures.same (taken.1 before told) in
      let tested = c.test.ensures (before ++ terms) (subst (λ (query : List Step). AreTold (before ++ terms) query c.fill.new.wanted.items) (sym c.as_slice.ensures.value) filled) in
      subst (λ (ts : List (List ℕ)). AreTold ts steps c.test.new.wanted.items) (append_assoc before terms (term ∷ []))
      (subst (λ (query : List Step). AreTold ((before ++ terms) ++ term ∷ []) query c.test.new.wanted.items) c.as_slice.ensures.value tested),
)
