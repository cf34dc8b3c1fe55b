-- Terms that are appended one thing after the other.
use Rattle.std.proofs.Common.{◌≡◌, ℕ, List, [], ◌∷◌, ◌++◌, Ok, Err, refl, sym, ap, ◌∙◌, append_assoc, append-nil}
use Rattle.std.proofs.lemmas.List.{reverse-append}
use Rattle.std.specs.Prelude.{reverse}
use Rattle.tv_indexing.specs.DocumentTerms.{AreAppended, Terms, followed_by}
use Rattle.tv_indexing.specs.JsonWalk.{ExtendsPath}

-- ---- one after the other

pub nothing_before : (t : Terms) → followed_by (Ok []) t ≡ t
nothing_before (Ok made) = refl
nothing_before (Err e) = refl

pub regrouped : (a b c : Terms) → followed_by (followed_by a b) c ≡ followed_by a (followed_by b c)
regrouped (Err e) b c = refl
regrouped (Ok a) (Err e) c = refl
regrouped (Ok a) (Ok b) (Err e) = refl
regrouped (Ok a) (Ok b) (Ok c) = ap Ok (append_assoc a b c)

-- ---- what is appended

pub put_behind : (old new : List (List ℕ)) (wanted : Terms) → AreAppended old new wanted → followed_by (Ok old) wanted ≡ Ok new
put_behind old new (Ok made) h = ap Ok (sym h)
put_behind old new (Err e) h = absurd h

pub are_appended : (old new : List (List ℕ)) (wanted : Terms) → followed_by (Ok old) wanted ≡ Ok new → AreAppended old new wanted
are_appended old new (Ok made) h = cc
are_appended old new (Err e) h = cc

-- ---- the list begins with what it was

pub extends_by : (old new : List (List ℕ)) (wanted : Terms) → AreAppended old new wanted → ExtendsPath old new
extends_by old new (Ok made) h = (made, h)
extends_by old new (Err e) h = absurd h

pub extends_on : (a b c : List (List ℕ)) → ExtendsPath a b → ExtendsPath b c → ExtendsPath a c
extends_on a b c h k = (h.0 ++ k.0, k.1 ∙ ap (λ l. l ++ k.0) h.1 ∙ append_assoc a h.0 k.0)

-- ---- so far: the whole is what was appended, and then what is left

pub all_appended : (old new : List (List ℕ)) (wanted : Terms) → followed_by (Ok old) wanted ≡ followed_by (Ok new) (Ok []) → AreAppended old new wanted
all_appended old new wanted h = are_appended old new wanted (h ∙ ap Ok (append-nil new))

pub reverse-snoc : {A : Type 0} (xs : List A) (x : A) → reverse (xs ++ x ∷ []) ≡ x ∷ reverse xs
reverse-snoc xs x = reverse-append xs (x ∷ [])
