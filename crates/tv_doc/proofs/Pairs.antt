-- The first pair that is left, and the others.
use Rattle.std.proofs.Common.{◌≡◌, ℕ, ◌<◌, List, [], ◌∷◌, length, refl, sym, ◌∙◌, ap, subst, true, false, nat_eq, arith}
use Rattle.std.proofs.Math.Logic.{∥∥₁_elim, ∥∥₁_map}
use Rattle.std.proofs.Math.Nat.{ℕ_set}
use mathlib.Core.HLevel.{⊥_prop}
use Rattle.tv_format.specs.Tree.{Tree, Document}
use Rattle.tv_builder.specs.declared.heap_pairs.HeapPair.{HeapPair}
use Rattle.tv_heap.specs.Held.{Held}
use Rattle.tv_builder.specs.Holds.{ReadsPair, ReadsPairs, Holds}
use Rattle.tv_heap.specs.Reads.{ReadsTree}
use Rattle.tv_heap.specs.TypeCode.{type_code}
use Rattle.tv_doc.specs.FieldValues.{values_of}
use Rattle.tv_builder.proofs.Documents.{same_document}

pub record FirstPair (heap : List ℕ) (p : HeapPair) (ps : List HeapPair) (d : Document) : Type 0 where
  pub pair : ℕ × Tree
  pub others : Document
  pub is : d ≡ pair ∷ others
  pub field : p.field ≡ pair.0
  pub reads : ∥ ReadsTree heap (type_code p.place.value_type) p.place.address pair.1 ∥₁
  pub left : ∥ ReadsPairs heap ps others ∥₁

pub first_pair : (heap : List ℕ) (ps qs : List HeapPair) (p : HeapPair) (d : Document) → ∥ ReadsPairs heap ps d ∥₁ → ps ≡ p ∷ qs → FirstPair heap p qs d
first_pair heap [] qs p d h e = absurd (cc)
first_pair heap (q ∷ ps) qs p [] h e = absurd (∥∥₁_elim h ⊥_prop (λ r. r))
first_pair heap (q ∷ ps) qs p (x ∷ d) h e =
    let first : q ≡ p = cc in
    let rest : ps ≡ qs = cc in
    let reads : ∥ ReadsPairs heap (p ∷ qs) (x ∷ d) ∥₁ = ∥∥₁_map h (λ r. (subst (λ z. ReadsPair heap z x) first r.0, subst (λ z. ReadsPairs heap z d) rest r.1)) in
    record {
      pair = x;
      others = d;
      is = refl;
      field = ∥∥₁_elim reads (ℕ_set _ _) (λ r. r.0.field);
      reads = ∥∥₁_map reads (λ r. r.0.reads);
      left = ∥∥₁_map reads (λ r. r.1);
    }

-- `t` is what is lent of the first pair
pub pair_steps : (heap : List ℕ) (p : HeapPair) (ps : List HeapPair) (d : Document) → FirstPair heap p ps d → (field : ℕ) → field ≡ p.field
    → (t : Tree) → ((held : Held heap (type_code p.place.value_type) p.place.address) → t ≡ held.0) → (y : Holds heap ps) → d ≡ (field, t) ∷ y.0
pair_steps heap p ps d f field is t same y =
    let number : f.pair.0 ≡ field = sym f.field ∙ sym is in
    let tree : f.pair.1 ≡ t = sym (same (f.pair.1, f.reads)) in
    let left = same_document heap heap ps ps (f.others, f.left) y refl refl in
    f.is ∙ (λ i. (number i, tree i) ∷ left i)

pub pairs_fewer : (heap : List ℕ) (p : HeapPair) (ps : List HeapPair) (d : Document) → FirstPair heap p ps d → (y : Holds heap ps) → length y.0 < length d
pairs_fewer heap p ps d f y =
    let left = same_document heap heap ps ps (f.others, f.left) y refl refl in
    omega (arith, ap length f.is, ap length left)

-- the first pair is of the field, or of another
pub value_first : (n field : ℕ) (t : Tree) (d rest : Document) → d ≡ (field, t) ∷ rest → nat_eq field n ≡ true → values_of n d ≡ t ∷ values_of n rest
value_first n field t d rest e same = ap (values_of n) e ∙ rw same refl

pub other_first : (n field : ℕ) (t : Tree) (d rest : Document) → d ≡ (field, t) ∷ rest → nat_eq field n ≡ false → values_of n d ≡ values_of n rest
other_first n field t d rest e other = ap (values_of n) e ∙ rw other refl
