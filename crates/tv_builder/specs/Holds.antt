-- The document of all pairs: what a heap's readings give.
use Rattle.std.specs.Prelude.{◌≡◌, ℕ, ◌<◌, ◌^◌, List, [], ◌∷◌, refl}
use Rattle.std.proofs.Common.{sym, ◌∙◌}
use Rattle.std.proofs.Math.Logic.{∥∥₁_elim, ∥∥₁_prop}
use mathlib.Core.HLevel.{Σ_prop_path}
use base.Stored.{Coded-set}
use Rattle.tv_format.specs.Tree.{Tree, Document}
use Rattle.tv_format.specs.TreeCode.{coded_document}
use Rattle.tv_heap.specs.declared.value_type.Place.{Place}
use Rattle.tv_heap.specs.TypeCode.{type_code}
use Rattle.tv_heap.specs.Reads.{ReadsTree}
use Rattle.tv_heap.specs.ReadsLaws.{one_tree}
use Rattle.tv_builder.specs.declared.heap_pairs.HeapPair.{HeapPair}

-- a field, and where its value stands
abbrev pub pair_at : ℕ → Place → HeapPair
pair_at field place = record { field = field; place = place }

-- a pair's field and tree
pub record ReadsPair (heap : List ℕ) (held : HeapPair) (pair : ℕ × Tree) : Type 0 where
  pub field : held.field ≡ pair.0
  pub fits : pair.0 < 2 ^ 32
  pub reads : ReadsTree heap (type_code held.place.value_type) held.place.address pair.1

-- each pair's
abbrev pub ReadsPairs : List ℕ → List HeapPair → Document → Type 0
ReadsPairs heap [] [] = Unit {0}
ReadsPairs heap (p ∷ ps) (pair ∷ d) = ReadsPair heap p pair × ReadsPairs heap ps d
ReadsPairs heap _ _ = ⊥

pub one_document : (heap : List ℕ) (ps : List HeapPair) (d e : Document) → ReadsPairs heap ps d
    → ReadsPairs heap ps e → d ≡ e
one_document heap [] [] [] r s = refl
one_document heap (p ∷ ps) (x ∷ d) (y ∷ e) r s =
    let field : x.0 ≡ y.0 = sym r.0.field ∙ s.0.field in
    let tree = one_tree heap (type_code p.place.value_type) p.place.address x.1 y.1 r.0.reads s.0.reads in
    let rest = one_document heap ps d e r.1 s.1 in
    λ i. (field i, tree i) ∷ rest i
one_document heap [] [] (y ∷ e) r s = absurd s
one_document heap [] (x ∷ d) document r s = absurd r
one_document heap (p ∷ ps) [] document r s = absurd r
one_document heap (p ∷ ps) (x ∷ d) [] r s = absurd s

-- the document that a heap and its pairs hold
abbrev pub Holds : List ℕ → List HeapPair → Type 0
Holds heap pairs = (d : Document) × ∥ ReadsPairs heap pairs d ∥₁

pub Holds-prop : (heap : List ℕ) (ps : List HeapPair) → IsProp (Holds heap ps)
Holds-prop heap pairs x y =
    Σ_prop_path (λ d. ∥∥₁_prop)
    (∥∥₁_elim x.1 (Coded-set coded_document x.0 y.0)
    (λ p. ∥∥₁_elim y.1 (Coded-set coded_document x.0 y.0) (λ q. one_document heap pairs x.0 y.0 p q)))
