-- The tree at a type and an address, and the trees of a list of children: what a heap's readings give.
use Rattle.std.specs.Prelude.{◌≡◌, ℕ, List, [], ◌∷◌, refl}
use Rattle.std.specs.Coded.{coded×, coded_list}
use Rattle.std.proofs.Common.{ap, sym, ◌∙◌}
use Rattle.std.proofs.Math.Logic.{∥∥₁_elim, ∥∥₁_prop}
use mathlib.Core.HLevel.{Σ_prop_path}
use base.Stored.{Coded-set}
use Rattle.tv_format.specs.Tree.{Tree, elements, element_list, entries, entry_list}
use Rattle.tv_format.specs.TreeCode.{coded_text, coded_tree}
use Rattle.tv_heap.specs.Reads.{ReadsTree, ReadsElements, ReadsEntries}
use Rattle.tv_heap.specs.ReadsLaws.{one_tree, one_elements, one_entries}

-- the tree that a type and an address read as
abbrev pub Held : List ℕ → ℕ → ℕ → Type 0
Held heap code at = (t : Tree) × ∥ ReadsTree heap code at t ∥₁

pub Held-prop : (heap : List ℕ) (code at : ℕ) → IsProp (Held heap code at)
Held-prop heap code at x y =
    Σ_prop_path (λ t. ∥∥₁_prop) (∥∥₁_elim x.1 (Coded-set coded_tree x.0 y.0)
    (λ p. ∥∥₁_elim y.1 (Coded-set coded_tree x.0 y.0) (λ q. one_tree heap code at x.0 y.0 p q)))

-- the tree does not depend on how it was shown
pub same_held : (heap : List ℕ) (code at : ℕ) (x y : Held heap code at) → x.0 ≡ y.0
same_held heap code at x y = ap (λ p. p.0) (Held-prop heap code at x y)

-- the trees that are left of a list of children, whoever is their parent
abbrev pub ReadAsElements : List ℕ → List ℕ → List Tree → Type 0
ReadAsElements heap whole trees = (parent : ℕ) × ReadsElements heap parent whole (elements trees)

abbrev pub HeldElements : List ℕ → List ℕ → Type 0
HeldElements heap whole = (ts : List Tree) × ∥ ReadAsElements heap whole ts ∥₁

listed_elements : (ts : List Tree) → element_list (elements ts) ≡ ts
listed_elements [] = refl
listed_elements (t ∷ ts) = ap (λ z. t ∷ z) (listed_elements ts)

pub same_list : (ts us : List Tree) → elements ts ≡ elements us → ts ≡ us
same_list trees us e = sym (listed_elements trees) ∙ ap element_list e ∙ listed_elements us

pub HeldElements-prop : (heap whole : List ℕ) → IsProp (HeldElements heap whole)
HeldElements-prop heap whole x y =
    let set = Coded-set (coded_list coded_tree) x.0 y.0 in
    Σ_prop_path (λ d. ∥∥₁_prop) (∥∥₁_elim x.1 set
    (λ p. ∥∥₁_elim y.1 set (λ q. same_list x.0 y.0
    (one_elements heap p.0 q.0 whole (elements x.0) (elements y.0) p.1 q.1))))

-- the keys and trees that are left
abbrev pub ReadAsEntries : List ℕ → List ℕ → List (List ℕ × Tree) → Type 0
ReadAsEntries heap whole es = (parent : ℕ) × ReadsEntries heap parent whole (entries es)

abbrev pub HeldEntries : List ℕ → List ℕ → Type 0
HeldEntries heap whole = (es : List (List ℕ × Tree)) × ∥ ReadAsEntries heap whole es ∥₁

listed_entries : (es : List (List ℕ × Tree)) → entry_list (entries es) ≡ es
listed_entries [] = refl
listed_entries (e ∷ es) = ap (λ z. e ∷ z) (listed_entries es)

same_entry_list : (es fs : List (List ℕ × Tree)) → entries es ≡ entries fs → es ≡ fs
same_entry_list es fs e = sym (listed_entries es) ∙ ap entry_list e ∙ listed_entries fs

pub HeldEntries-prop : (heap whole : List ℕ) → IsProp (HeldEntries heap whole)
HeldEntries-prop heap whole x y =
    let set = Coded-set (coded_list (coded× coded_text coded_tree)) x.0 y.0 in
    Σ_prop_path (λ d. ∥∥₁_prop) (∥∥₁_elim x.1 set
    (λ p. ∥∥₁_elim y.1 set (λ q. same_entry_list x.0 y.0
    (one_entries heap p.0 q.0 whole (entries x.0) (entries y.0) p.1 q.1))))
