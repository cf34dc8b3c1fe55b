use Rattle.std.proofs.Common.{◌≡◌, ◌↔◌, Bool, true, false, IsTrue, List, ℕ, refl}
use Rattle.tv_query.specs.Grammar.{QueryTree}
use Rattle.tv_query.specs.Matching.{Matches}
use Rattle.tv_query.proofs.laws.matches_are_determined.Goals as goal

one_truth : (terms : List (List ℕ)) (tree : QueryTree) (truth other : Bool) → IsTrue truth ↔ Matches terms tree → IsTrue other ↔ Matches terms tree → truth ≡ other
one_truth terms tree true true x y = refl
one_truth terms tree false false x y = refl
one_truth terms tree true false x y = let e : false ≡ true = y.1 (x.0 refl) in absurd (cc)
one_truth terms tree false true x y = let e : false ≡ true = x.1 (y.0 refl) in absurd (cc)

pub returns : goal.returns
returns c = λ terms tree truth other x y. one_truth terms tree truth other x y
