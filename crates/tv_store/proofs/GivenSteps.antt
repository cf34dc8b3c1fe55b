-- Pairs that are given, one after the other.
use Rattle.std.proofs.Common.{◌≡◌, ℕ, Bool, true, false, [], ◌∷◌, ◌++◌, refl, sym, subst}
use Rattle.tv_format.specs.Tree.{Tree, Document}
use Rattle.tv_typed.specs.Documents.{NextPair, GivesAll}

-- one more
gives_push : {D : Type 0} (gives : D → ℕ × Tree → D → Type 0) (first mid last : D) (pairs : Document) (pair : ℕ × Tree) → GivesAll gives first pairs mid → gives mid pair last → GivesAll gives first (pairs ++ pair ∷ []) last
gives_push gives first mid last [] pair p g = (last, subst (λ z. gives z pair last) p g, refl)
gives_push gives first mid last (q ∷ pairs) pair p g = (p.0, p.1, gives_push gives p.0 mid last pairs pair p.2 g)

-- ---- the next pair

-- the pairs that stand there now were given
pub next_given : {D : Type 0} (remaining : D → ℕ) (is_known : D → Type 0) (gives : D → ℕ × Tree → D → Type 0) (first old new : D) (before after : Document) (more : Bool) → more ≡ true → NextPair remaining is_known gives old new before after more → is_known old → GivesAll gives first before old
    → is_known new × GivesAll gives first after new
next_given remaining is_known gives first old new before after true is h told given =
    let next = h.1 told (first, given) in
    (next.0, subst (λ pairs. GivesAll gives first pairs new) (sym next.1.2) (gives_push gives first old new before next.1.0 given next.1.1))
next_given remaining is_known gives first old new before after false is h told given = absurd cc
