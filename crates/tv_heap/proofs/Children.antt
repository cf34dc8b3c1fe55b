-- The first child that is left, and the others.
use Rattle.std.proofs.Common.{◌≡◌, ℕ, ◌<◌, ◌^◌, List, [], ◌∷◌, ◌++◌, Option, Some, None, length, refl, sym, ◌∙◌, ap, subst, arith}
use Rattle.std.specs.Borrow.{Bor}
use Rattle.std.proofs.lemmas.Option.{none-some}
use Rattle.std.proofs.Math.Logic.{∥∥₁_elim, ∥∥₁_map}
use mathlib.Core.HLevel.{⊥_prop}
use base.Stored.{Coded-set}
use Rattle.tv_base.specs.Number.{vnum}
use Rattle.tv_format.specs.Leaves.{type_of}
use Rattle.tv_format.specs.Tree.{text, Tree, leaf, array, object, elements, entry, entries}
use Rattle.tv_format.specs.TreeCode.{coded_text}
use Rattle.tv_heap.specs.declared.value_type.ValueType.{ValueType}
use Rattle.tv_heap.specs.declared.value_type.ValueType.TheVariants as type
use Rattle.tv_heap.specs.Held.{Held, same_held, ReadAsElements, HeldElements, ReadAsEntries, HeldEntries}
use Rattle.tv_heap.specs.Lent.{GivesChild}
use Rattle.tv_heap.specs.Reads.{Stands, ShortText, ReadsTree, ReadsElements, ReadsEntries}
use Rattle.tv_heap.proofs.TypeCodes.{leaf_code}
use Rattle.tv_heap.specs.TypeCode.{leaf_heap_type, type_code}
use Rattle.tv_heap.proofs.Shapes.{same_elements, same_entries}

-- a child's type, its address, and what follows
abbrev Found : Type 0
Found = ValueType × ℕ × Bor (List ℕ)

-- what `child_at` promises
abbrev pub Gives : List ℕ → Option Found → Type 0
Gives list r = (t : ValueType) (at : ℕ) (rest : List ℕ) → at < 2 ^ 32 → list ≡ type_code t ∷ (vnum at ++ rest) → GivesChild r (type_code t) at rest

-- each type byte is one of a type
abbrev Typed : ℕ → Type 0
Typed code = (t : ValueType) × (code ≡ type_code t)

tree_typed : (heap : List ℕ) (code at : ℕ) (t : Tree) → ReadsTree heap code at t → Typed code
tree_typed heap code at (leaf l) r = (leaf_heap_type (type_of l), r.0 ∙ sym (leaf_code (type_of l)))
tree_typed heap code at (array ts) r = (type.Array, r.0)
tree_typed heap code at (object es) r = (type.Object, r.0)

-- ---- arrays

-- the first tree that is left, and the others
pub record FirstTree (heap rest : List ℕ) (code at : ℕ) (ts : List Tree) : Type 0 where
  pub tree : Tree
  pub others : List Tree
  pub is : ts ≡ tree ∷ others
  pub reads : ∥ ReadsTree heap code at tree ∥₁
  pub left : ∥ ReadAsElements heap rest others ∥₁

-- a child that reads is found
pub record FoundChild (x : Found) (code at : ℕ) (rest : List ℕ) : Type 0 where
  pub same_code : code ≡ type_code x.0
  pub same_at : at ≡ x.1
  pub same_rest : rest ≡ x.2.now

found_child : (heap list : List ℕ) (x : Found) (code at : ℕ) (rest : List ℕ) (t : Tree) → Gives list (Some x) → ReadsTree heap code at t → at < 2 ^ 32 → list ≡ code ∷ (vnum at ++ rest) → FoundChild x code at rest
found_child heap list x code at rest t gives reads fits joined =
    let v = tree_typed heap code at t reads in
    let g = gives v.0 at rest fits (joined ∙ ap (λ c. c ∷ (vnum at ++ rest)) v.1) in
    record { same_code = v.1 ∙ sym g.0; same_at = sym g.1; same_rest = sym g.2 }

none_found : {A : Type 0} (heap list : List ℕ) (code at : ℕ) (rest : List ℕ) (t : Tree) → Gives list None → ReadsTree heap code at t → at < 2 ^ 32 → list ≡ code ∷ (vnum at ++ rest) → A
none_found heap list code at rest t gives reads fits joined =
    let v = tree_typed heap code at t reads in
    absurd (gives v.0 at rest fits (joined ∙ ap (λ c. c ∷ (vnum at ++ rest)) v.1))

read_as : (heap : List ℕ) (code at to_code to_at : ℕ) (t : Tree) → code ≡ to_code → at ≡ to_at → ReadsTree heap code at t → ReadsTree heap to_code to_at t
read_as heap code at to_code to_at t e f r = subst (λ z. ReadsTree heap to_code z t) f (subst (λ z. ReadsTree heap z at t) e r)

pub first_tree : (heap list : List ℕ) (ts : List Tree) → ∥ ReadAsElements heap list ts ∥₁ → (x : Found) → Gives list (Some x) → (list ≡ [] → Some x ≡ None) → FirstTree heap x.2.now (type_code x.0) x.1 ts
first_tree heap list [] h x gives none = absurd (∥∥₁_elim h ⊥_prop (λ p. none-some _ (sym (none p.1))))
first_tree heap list (t ∷ ts) h x gives none = record {
  tree = t;
  others = ts;
  is = refl;
  reads = ∥∥₁_map h (λ p.
      let q = p.1 in
      let f = found_child heap list x q.code q.at q.rest t gives q.reads q.fits q.joined in
      read_as heap q.code q.at (type_code x.0) x.1 t f.same_code f.same_at q.reads);
  left = ∥∥₁_map h (λ p.
      let q = p.1 in
      let f = found_child heap list x q.code q.at q.rest t gives q.reads q.fits q.joined in
      (p.0, subst (λ z. ReadsElements heap p.0 z (elements ts)) f.same_rest q.others));
}

pub no_tree : (heap list : List ℕ) (ts : List Tree) → ∥ ReadAsElements heap list ts ∥₁ → Gives list None → ts ≡ []
no_tree heap list [] h gives = refl
no_tree heap list (t ∷ ts) h gives = absurd (∥∥₁_elim h ⊥_prop (λ p. let q = p.1 in none_found heap list q.code q.at q.rest t gives q.reads q.fits q.joined))

pub steps_are : (heap rest : List ℕ) (code at : ℕ) (ts : List Tree) → FirstTree heap rest code at ts → (x : Held heap code at) (y : HeldElements heap rest) → ts ≡ x.0 ∷ y.0
steps_are heap rest code at ts f x y =
    let first = same_held heap code at (f.tree, f.reads) x in
    let left = same_elements heap rest (f.others, f.left) y in
    f.is ∙ (λ i. first i ∷ left i)

pub left_fewer : (heap rest : List ℕ) (code at : ℕ) (ts : List Tree) → FirstTree heap rest code at ts → (y : HeldElements heap rest) → length y.0 < length ts
left_fewer heap rest code at ts f y = let e = ap length (steps_are heap rest code at ts f (f.tree, f.reads) y) in omega arith

-- ---- objects

-- the first entry that is left, its key at an address, and the others
pub record FirstEntry (heap rest : List ℕ) (key_at code at : ℕ) (es : List (List ℕ × Tree)) : Type 0 where
  pub key : List ℕ
  pub tree : Tree
  pub others : List (List ℕ × Tree)
  pub is : es ≡ (key, tree) ∷ others
  pub stands : ∥ Stands heap key_at (λ w. ShortText key w) ∥₁
  pub reads : ∥ ReadsTree heap code at tree ∥₁
  pub left : ∥ ReadAsEntries heap rest others ∥₁

abbrev OneLeft : List ℕ → List ℕ → List ℕ → Tree → List (List ℕ × Tree) → Type 0
OneLeft heap list k t es = (parent : ℕ) × ReadsEntries heap parent list (entry k t (entries es))

-- what the two calls of `child_at` give
pub record TwoChildren (heap : List ℕ) (x y : Found) (k : List ℕ) (t : Tree) (es : List (List ℕ × Tree)) : Type 0 where
  pub stands : Stands heap x.1 (λ w. ShortText k w)
  pub reads : ReadsTree heap (type_code y.0) y.1 t
  pub left : ReadAsEntries heap y.2.now es

two_children : (heap list : List ℕ) (k : List ℕ) (t : Tree) (es : List (List ℕ × Tree)) (x y : Found) → Gives list (Some x) → Gives x.2.now (Some y) → OneLeft heap list k t es → TwoChildren heap x y k t es
two_children heap list k t es x y gx gy p =
    let q = p.1 in
    let r = q.others in
    let f = found_child heap list x q.code q.at q.rest (leaf (text k)) gx q.reads q.fits q.joined in
    let g = found_child heap x.2.now y r.code r.at r.rest t gy r.reads r.fits (sym f.same_rest ∙ r.joined) in
    record {
      stands = subst (λ z. Stands heap z (λ w. ShortText k w)) f.same_at q.reads.1;
      reads = read_as heap r.code r.at (type_code y.0) y.1 t g.same_code g.same_at r.reads;
      left = (p.0, subst (λ z. ReadsEntries heap p.0 z (entries es)) g.same_rest r.others);
    }

pub first_entry : (heap list : List ℕ) (es : List (List ℕ × Tree)) → ∥ ReadAsEntries heap list es ∥₁ → (x y : Found) → Gives list (Some x) → (list ≡ [] → Some x ≡ None) → Gives x.2.now (Some y)
    → FirstEntry heap y.2.now x.1 (type_code y.0) y.1 es
first_entry heap list [] h x y gx none gy = absurd (∥∥₁_elim h ⊥_prop (λ p. none-some _ (sym (none p.1))))
first_entry heap list (e ∷ es) h x y gx none gy = record {
  key = e.0;
  tree = e.1;
  others = es;
  is = refl;
  stands = ∥∥₁_map h (λ p. (two_children heap list e.0 e.1 es x y gx gy p).stands);
  reads = ∥∥₁_map h (λ p. (two_children heap list e.0 e.1 es x y gx gy p).reads);
  left = ∥∥₁_map h (λ p. (two_children heap list e.0 e.1 es x y gx gy p).left);
}

pub no_entry : (heap list : List ℕ) (es : List (List ℕ × Tree)) → ∥ ReadAsEntries heap list es ∥₁ → Gives list None → es ≡ []
no_entry heap list [] h gives = refl
no_entry heap list (e ∷ es) h gives =
    absurd (∥∥₁_elim h ⊥_prop (λ p. let q = p.1 in none_found heap list q.code q.at q.rest (leaf (text e.0)) gives q.reads q.fits q.joined))

-- a key has a value after it
pub no_value : (heap list : List ℕ) (es : List (List ℕ × Tree)) → ∥ ReadAsEntries heap list es ∥₁ → (x : Found) → Gives list (Some x) → Gives x.2.now None → es ≡ []
no_value heap list [] h x gx gy = refl
no_value heap list (e ∷ es) h x gx gy =
    absurd (∥∥₁_elim h ⊥_prop (λ p.
    let q = p.1 in
    let r = q.others in
    let f = found_child heap list x q.code q.at q.rest (leaf (text e.0)) gx q.reads q.fits q.joined in
    none_found heap x.2.now r.code r.at r.rest e.1 gy r.reads r.fits (sym f.same_rest ∙ r.joined)))

pub entry_steps : (heap rest : List ℕ) (key_at code at : ℕ) (es : List (List ℕ × Tree)) → FirstEntry heap rest key_at code at es → (key : List ℕ) → ((s : List ℕ) → Stands heap key_at (λ w. ShortText s w) → key ≡ s)
    → (x : Held heap code at) (y : HeldEntries heap rest) → es ≡ (key, x.0) ∷ y.0
entry_steps heap rest key_at code at es f key is x y =
    let same : key ≡ f.key = ∥∥₁_elim f.stands (Coded-set coded_text _ _) (λ p. is f.key p) in
    let first = same_held heap code at (f.tree, f.reads) x in
    let left = same_entries heap rest (f.others, f.left) y in
    f.is ∙ (λ i. (sym same i, first i) ∷ left i)

pub entries_fewer : (heap rest : List ℕ) (key_at code at : ℕ) (es : List (List ℕ × Tree)) → FirstEntry heap rest key_at code at es → (y : HeldEntries heap rest) → length y.0 < length es
entries_fewer heap rest key_at code at es f y =
    let e = ap length (f.is ∙ ap (λ z. (f.key, f.tree) ∷ z) (same_entries heap rest (f.others, f.left) y)) in omega arith
