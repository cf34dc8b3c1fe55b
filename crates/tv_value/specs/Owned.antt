-- The tree that an owned value is.
use Rattle.std.specs.Prelude.{ℕ, List, map, String, Option, Some, None}
use Rattle.std.specs.Borrow.{Bor}
use Rattle.std.specs.Iterator.{YieldsFirstRef, YieldsFirstBy}
use Rattle.std.specs.declared.alloc.Global.{Global}
use Rattle.std.proofs.Common.{ap}
use Rattle.tv_value.specs.Lent.{key_and, tree_step}
use Rattle.tv_format.specs.Tree.{Tree}
use Rattle.tv_value.specs.declared.owned_value.OwnedValue.{OwnedValue, fold-OwnedValue}

abbrev pub owned_tree : OwnedValue → Tree
owned_tree = fold-OwnedValue Tree tree_step

-- the keys and the values of an object
abbrev pub owned_entries : List (String Global × OwnedValue) → List (List ℕ × Tree)
owned_entries members = map key_and (map (λ m. (m.0, owned_tree m.1)) members)

-- what an iterator over references yields, seen through a function of each item
pub steps_of_refs : {S A B : Type 0} (f : A → B) (rest : S → List A) (s t : S) (r : Option (Bor A))
    → YieldsFirstRef rest s r t → YieldsFirstBy (λ x. f x.now) (λ s. map f (rest s)) s r t
steps_of_refs f rest s t None h = (ap (map f) h.0, ap (map f) h.1)
steps_of_refs f rest s t (Some x) h = ap (map f) h
