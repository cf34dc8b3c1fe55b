-- What is said of a list by its children.
use Rattle.std.proofs.Common.{◌≡◌, ◌+◌, ℕ, suc, List, [], ◌∷◌, map, refl, sym, ◌∙◌, ap}
use Rattle.tv_format.specs.Size.{size, elements_size, entries_size}
use Rattle.tv_format.specs.Tree.{Tree, leaf, array, object, Elements, no_elements, element, elements, Entries, no_entries, entry, entries, element_list, entry_list}
use Rattle.tv_value.specs.Children.{Child, IsListOf, children_size, ChildrenNestWithin, without_key, with_key}
use Rattle.tv_value.specs.Nesting.{NestsWithin, ElementsNestWithin, EntriesNestWithin}

elements_sizes : (ts : Elements) → elements_size ts ≡ children_size (map without_key (element_list ts))
elements_sizes no_elements = refl
elements_sizes (element t ts) = ap (λ z. suc (size t + z)) (elements_sizes ts)

entries_sizes : (es : Entries) → entries_size es ≡ children_size (map with_key (entry_list es))
entries_sizes no_entries = refl
entries_sizes (entry k t es) = ap (λ z. suc (size t + z)) (entries_sizes es)

-- a list counts one more than its children
pub list_size : (cs : List Child) (t : Tree) → IsListOf cs t → size t ≡ suc (children_size cs)
list_size cs (leaf l) is = absurd is
list_size cs (array ts) is = ap suc (elements_sizes ts ∙ ap children_size (sym is))
list_size cs (object es) is = ap suc (entries_sizes es ∙ ap children_size (sym is))

elements_nest : (n : ℕ) (ts : Elements) → ElementsNestWithin n ts ≡ ChildrenNestWithin n (map without_key (element_list ts))
elements_nest n no_elements = refl
elements_nest n (element t ts) = ap (λ z. NestsWithin n t × z) (elements_nest n ts)

entries_nest : (n : ℕ) (es : Entries) → EntriesNestWithin n es ≡ ChildrenNestWithin n (map with_key (entry_list es))
entries_nest n no_entries = refl
entries_nest n (entry k t es) = ap (λ z. NestsWithin n t × z) (entries_nest n es)

-- a list nests within one more than its children, and none within 0
pub list_nests : (n m : ℕ) (cs : List Child) (t : Tree) → IsListOf cs t → n ≡ suc m → NestsWithin n t ≡ ChildrenNestWithin m cs
list_nests n m cs (leaf l) is e = absurd is
list_nests n m cs (array ts) is e = ap (λ z. NestsWithin z (array ts)) e ∙ elements_nest m ts ∙ ap (ChildrenNestWithin m) (sym is)
list_nests n m cs (object es) is e = ap (λ z. NestsWithin z (object es)) e ∙ entries_nest m es ∙ ap (ChildrenNestWithin m) (sym is)

pub no_list_within_0 : (cs : List Child) (t : Tree) → IsListOf cs t → NestsWithin 0 t → ⊥
no_list_within_0 cs (leaf l) is h = is
no_list_within_0 cs (array ts) is h = h
no_list_within_0 cs (object es) is h = h

-- the children that iterators have left
pub list_of_items : (ts : List Tree) → IsListOf (map without_key ts) (array (elements ts))
list_of_items [] = refl
list_of_items (t ∷ ts) = ap (λ z. without_key t ∷ z) (list_of_items ts)

pub list_of_members : (es : List (List ℕ × Tree)) → IsListOf (map with_key es) (object (entries es))
list_of_members [] = refl
list_of_members (e ∷ es) = ap (λ z. with_key e ∷ z) (list_of_members es)

pub items_size : (ts : List Tree) → elements_size (elements ts) ≡ children_size (map without_key ts)
items_size [] = refl
items_size (t ∷ ts) = ap (λ z. suc (size t + z)) (items_size ts)

pub members_size : (es : List (List ℕ × Tree)) → entries_size (entries es) ≡ children_size (map with_key es)
members_size [] = refl
members_size (e ∷ es) = ap (λ z. suc (size e.1 + z)) (members_size es)
