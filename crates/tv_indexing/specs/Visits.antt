-- The terms that a visitor takes.
--
-- The words of the public contract, of a visitor that was `old` and is `new`. `HasTaken start now terms` says
-- that it has taken these terms since it was `start`, and is `now`. `TakesTerms`: it took these, in this
-- order, after all that it had taken before. `TakesAll`: it took all of these terms, and they aren't refused.
-- `TakesOrRefuses`: so it did, or they are refused for the reason that is returned. `TakesSome`: it took some
-- terms, or none.
use Rattle.std.specs.Prelude.{◌≡◌, ℕ, List, ◌++◌, Result, Ok, Err}
use Rattle.tv_indexing.specs.DocumentTerms.{Terms}
use Rattle.tv_indexing.specs.declared.document.TermValuesError.{TermValuesError}

abbrev pub TakesTerms : {V : Type 0} → (V → V → List (List ℕ) → Type 0) → V → V → List (List ℕ) → Type 0
TakesTerms HasTaken old new more = (start : _) (terms : List (List ℕ)) → HasTaken start old terms
    → HasTaken start new (terms ++ more)

abbrev pub TakesAll : {V : Type 0} → (V → V → List (List ℕ) → Type 0) → V → V → Terms → Type 0
TakesAll HasTaken old new (Ok made) = TakesTerms HasTaken old new made
TakesAll HasTaken old new (Err why) = ⊥

-- it took all, or this is why they are refused
abbrev pub TakesOrRefuses : {V : Type 0} → (V → V → List (List ℕ) → Type 0) → V → V → Terms
    → Result (Unit {0}) TermValuesError → Type 0
TakesOrRefuses HasTaken old new terms (Ok done) = TakesAll HasTaken old new terms
TakesOrRefuses HasTaken old new terms (Err why) = terms ≡ Err why

abbrev pub TakesSome : {V : Type 0} → (V → V → List (List ℕ) → Type 0) → V → V → Type 0
TakesSome HasTaken old new = (some : List (List ℕ)) × TakesTerms HasTaken old new some
