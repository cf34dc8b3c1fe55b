-- Which terms match a query.
--
-- The words of the public contract:
-- `Matches`: the terms of a document match the query.
-- `HasTaken`: the matcher holds of each clause of its query whether it wants one of these terms.
use Rattle.std.specs.Prelude.{◌≡◌, ◌⊎◌, ◌↔◌, ◌&&◌, ◌||◌, ℕ, List, [], ◌∷◌, ◌++◌, Bool, false, not, IsTrue}
use Rattle.std.specs.Prelude.{Some, get_or, slice_get}
use Rattle.tv_query.specs.Grammar.{QueryTree, both, either, negation, selecting}
use Rattle.tv_query.specs.Selections.{HasWanted, IsWanted}
use Rattle.tv_query.specs.declared.matching.QueryMatcher.{QueryMatcher}
use Rattle.tv_query.specs.declared.query.Step.{Step}
use Rattle.tv_query.specs.declared.query.Step.TheVariants as steps

-- the terms of a document match the query
abbrev pub Matches : List (List ℕ) → QueryTree → Type 0
Matches terms (selecting selection) = HasWanted terms selection
Matches terms (negation tree) = ¬ Matches terms tree
Matches terms (both left right) = Matches terms left × Matches terms right
Matches terms (either left right) = Matches terms left ⊎ Matches terms right

-- of a clause it is told whether it wants one of the terms
abbrev pub IsTold : List (List ℕ) → Step → Bool → Type 0
IsTold terms (steps.Clause selection) told = IsTrue told ↔ HasWanted terms selection
IsTold terms step told = Unit {0}

-- so it is of each step, by what stands at its place; past the end of the list that is `false`
abbrev pub AreTold : List (List ℕ) → List Step → List Bool → Type 0
AreTold terms query told = (place : ℕ) (step : Step) → slice_get query place ≡ Some step
    → IsTold terms step (get_or told place false)

abbrev pub HasTaken : List (List ℕ) → QueryMatcher → Type 0
HasTaken terms matcher = AreTold terms matcher.query.now.steps.items matcher.wanted.items

-- ---- for private clauses

-- the truth of a step: of a clause whether it wants one of the terms, else that of the last truths, which are
-- taken off
abbrev pub IsTruthOf : List (List ℕ) → Step → List Bool → List Bool → Bool → Type 0
IsTruthOf terms (steps.Clause selection) old new truth =
    (new ≡ old) × (IsTrue truth ↔ HasWanted terms selection)
IsTruthOf terms steps.Not old new truth = (before : List Bool) (first : Bool) → old ≡ before ++ first ∷ []
    → (new ≡ before) × (truth ≡ not first)
IsTruthOf terms steps.And old new truth = (before : List Bool) (first second : Bool)
    → old ≡ before ++ first ∷ second ∷ []
    → (new ≡ before) × (truth ≡ (first && second))
IsTruthOf terms steps.Or old new truth = (before : List Bool) (first second : Bool)
    → old ≡ before ++ first ∷ second ∷ []
    → (new ≡ before) × (truth ≡ (first || second))

-- of a clause it was told, and is now told of this term too
abbrev pub IsTested : List ℕ → Step → Bool → Bool → Type 0
IsTested term (steps.Clause selection) before after = IsTrue after ↔ (IsTrue before ⊎ IsWanted selection term)
IsTested term step before after = Unit {0}
