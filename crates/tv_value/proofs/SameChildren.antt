-- A test of two lists, child by child.
use Rattle.std.proofs.Common.{◌≡◌, ℕ, List, [], ◌∷◌, ◌&&◌, map, refl, ap}
use Rattle.std.specs.Str.{bytes_eq}
use Rattle.tv_format.specs.Tree.{Tree, elements, entries}
use Rattle.tv_value.specs.Children.{without_key, with_key}
use Rattle.tv_value.specs.Same.{tree_eq, elements_eq, entries_eq}
use Rattle.tv_value.specs.SameChildren.{children_eq}

pub items_eq : (ts us : List Tree) → elements_eq (elements ts) (elements us) ≡ children_eq (map without_key ts) (map without_key us)
items_eq [] [] = refl
items_eq [] (u ∷ us) = refl
items_eq (t ∷ ts) [] = refl
items_eq (t ∷ ts) (u ∷ us) = ap (λ z. tree_eq t u && z) (items_eq ts us)

pub members_eq : (es fs : List (List ℕ × Tree)) → entries_eq (entries es) (entries fs) ≡ children_eq (map with_key es) (map with_key fs)
members_eq [] [] = refl
members_eq [] (f ∷ fs) = refl
members_eq (e ∷ es) [] = refl
members_eq (e ∷ es) (f ∷ fs) = ap (λ z. (bytes_eq e.0 f.0 && tree_eq e.1 f.1) && z) (members_eq es fs)
