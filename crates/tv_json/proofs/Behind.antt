-- Lists to which more is added.
use Rattle.std.proofs.Common.{◌≡◌, List, ◌++◌, append_assoc, ap, ◌∙◌}

-- first some, then more
pub behind : {A : Type 0} (xs ps qs ys zs : List A) → ys ≡ xs ++ ps → zs ≡ ys ++ qs → zs ≡ xs ++ (ps ++ qs)
behind xs ps qs ys zs h g = g ∙ ap (λ l. l ++ qs) h ∙ append_assoc xs ps qs
