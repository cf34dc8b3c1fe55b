-- Lists within one another, written child by child.
use Rattle.std.proofs.Common.{◌≡◌, ℕ, suc, ◌+◌, ◌≤◌, List, [], ◌∷◌, ◌++◌, length, take, drop, reverse, Option, Some, None, refl, sym, ◌∙◌, ap, subst}
use Rattle.std.proofs.lemmas.List.{reverse-append}
use Rattle.tv_format.specs.Tree.{Tree, leaf, text}
use Rattle.tv_value.specs.Children.{Child, IsListOf, children_left, children_size}
use Rattle.tv_heap.specs.declared.value_type.Place.{Place}
use Rattle.tv_builder.specs.declared.errors.AddError.{AddError}
use Rattle.tv_builder.specs.declared.kinds.ListKind.{ListKind}
use Rattle.tv_builder.specs.declared.nested.UnfinishedList.{UnfinishedList}
use Rattle.tv_builder.specs.Given.{place_bytes}
use Rattle.tv_builder.specs.Nested.{KeyPut}
use Rattle.tv_builder.specs.Whole.{Put, PutNot, ListPut}
use Rattle.tv_builder.proofs.Putting.{flat, IsOfKind, ChildPut, ListOpen, list_opens, list_goes_on, list_closes, list_refused, children_make}

-- An open list that began somewhere, for which `Around` says what is to become of it.
pub record Within (most : ℕ) (Around : List ℕ → List ℕ → Tree → Type 0) (kind : ListKind) (first : ℕ) (heap places : List ℕ) (left : List Tree) : Type 0 where
  pub old : List ℕ
  pub before : List ℕ
  pub whole : Tree
  pub around : Around old before whole
  pub begins : first ≡ length before
  pub list : ListOpen most kind old before whole heap places left

-- what is left of an open list
abbrev pub left_of : {N K A O : Type 0} → (A → List Tree) → (O → List (List ℕ × Tree)) → UnfinishedList N K A O → List Child
left_of items members o = children_left items members o.children

-- A value is written next, at this heap and after these places: as a child of the innermost of these lists, which stand within one another
-- from the innermost on, and together make a value that began at another heap, after other places.
abbrev pub Around : {N K A O : Type 0} → ℕ → (A → List Tree) → (O → List (List ℕ × Tree)) → List ℕ → List ℕ → Tree → List (UnfinishedList N K A O) → List ℕ → List ℕ → Tree → Type 0
Around most items members old start t [] heap places u = (heap ≡ old) × (places ≡ start) × (u ≡ t)
Around most items members old start t (o ∷ os) heap places u = Within most (Around most items members old start t os) o.kind o.first heap places (u ∷ flat (left_of items members o))

-- where a value within lists is refused, the whole is
pub around_refused : {most : ℕ} {N K A O : Type 0} (items : A → List Tree) (members : O → List (List ℕ × Tree)) (old start : List ℕ) (t : Tree) (os : List (UnfinishedList N K A O)) (heap places new : List ℕ) (u : Tree) (e : AddError)
    → Around most items members old start t os heap places u → PutNot most heap u new e → PutNot most old t new e
around_refused {most} items members old start t [] heap places new u e s w = subst (λ z. PutNot most old z new e) s.2 (subst (λ z. PutNot most z u new e) s.0 w)
around_refused {most} items members old start t (o ∷ os) heap places new u e s w =
    around_refused items members old start t os s.old s.before new s.whole e s.around (list_refused o.kind s.old s.before heap places new s.whole u (u ∷ flat (left_of items members o)) (flat (left_of items members o)) e s.list refl w)

-- ---- an open list begins, and goes on

pub opens : {most : ℕ} {A : List ℕ → List ℕ → Tree → Type 0} (kind : ListKind) (first : ℕ) (heap places : List ℕ) (u : Tree) (cs : List Child) → length heap ≤ most → most ≤ 4294967295 → A heap places u → first ≡ length places → IsOfKind kind u → IsListOf cs u
    → Within most A kind first heap places (flat cs)
opens kind first heap places u cs fits small around begins of is = record {
  old = heap;
  before = places;
  whole = u;
  around = around;
  begins = begins;
  list = list_opens kind heap places (flat cs) u fits small (children_make kind cs u of is);
}

pub goes_on : {most : ℕ} {A : List ℕ → List ℕ → Tree → Type 0} (kind : ListKind) (first : ℕ) (heap places new later : List ℕ) (t : Tree) (left ts : List Tree) → Within most A kind first heap places left → left ≡ t ∷ ts → ChildPut most heap places t new later → Within most A kind first new later ts
goes_on kind first heap places new later t left ts s is w = record {
  old = s.old;
  before = s.before;
  whole = s.whole;
  around = s.around;
  begins = s.begins;
  list = list_goes_on kind s.old s.before heap places new later s.whole t left ts s.list is w;
}

-- a child whose key is written comes next
pub child_next : {most : ℕ} (A : List ℕ → List ℕ → Tree → Type 0) (key : Option (List ℕ)) (kind : ListKind) (first : ℕ) (heap places new later : List ℕ) (u : Tree) (cs ds : List Child) → Within most A kind first heap places (flat cs) → cs ≡ (key, u) ∷ ds
    → KeyPut most heap places key new later → Within most A kind first new later (u ∷ flat ds)
child_next {most} A None kind first heap places new later u cs ds s e w =
    subst (λ z. Within most A kind first z later (u ∷ flat ds)) (sym w.0) (subst (λ z. Within most A kind first heap z (u ∷ flat ds)) (sym w.1) (subst (λ z. Within most A kind first heap places (flat z)) e s))
child_next A (Some k) kind first heap places new later u cs ds s e w = goes_on kind first heap places new later (leaf (text k)) (flat cs) (u ∷ flat ds) s (ap flat e) w

-- one list more on a stack
pub pushed : {T : Type 0} (all os : List T) (o : T) → all ≡ os ++ o ∷ [] → reverse all ≡ o ∷ reverse os
pushed all os o e = ap reverse e ∙ reverse-append os (o ∷ [])

-- the list around one that is closed goes on
pub outer_goes_on : {most : ℕ} {N K A O : Type 0} (items : A → List Tree) (members : O → List (List ℕ × Tree)) (old start : List ℕ) (t : Tree) (all os : List (UnfinishedList N K A O)) (o : UnfinishedList N K A O) (kind : ListKind) (first : ℕ)
    (heap places new mid later : List ℕ) (left : List Tree) (p : Place) → Within most (Around most items members old start t (reverse all)) kind first heap places left → left ≡ [] → all ≡ os ++ o ∷ [] → ListPut most heap kind (drop first places) new p → mid ≡ take first places → later ≡ mid ++ place_bytes p
    → Within most (Around most items members old start t (reverse os)) o.kind o.first new later (flat (left_of items members o))
outer_goes_on {most} items members old start t all os o kind first heap places new mid later left p s none is w kept e =
    let closed = list_closes kind s.old s.before heap places new mid s.whole left first p s.list none s.begins w kept in
    let around : Around most items members old start t (o ∷ reverse os) s.old s.before s.whole = subst (λ z. Around most items members old start t z s.old s.before s.whole) (pushed all os o is) s.around in
    goes_on o.kind o.first s.old s.before new later s.whole _ (flat (left_of items members o)) around refl (p, closed.0, e ∙ ap (λ z. z ++ place_bytes p) closed.1)

-- the outermost is closed
pub outermost_closes : {most : ℕ} {N K A O : Type 0} (items : A → List Tree) (members : O → List (List ℕ × Tree)) (old start : List ℕ) (t : Tree) (all : List (UnfinishedList N K A O)) (kind : ListKind) (first : ℕ) (heap places new mid : List ℕ) (left : List Tree) (p : Place)
    → Within most (Around most items members old start t (reverse all)) kind first heap places left → left ≡ [] → all ≡ [] → ListPut most heap kind (drop first places) new p → mid ≡ take first places → Put most old t new p × (mid ≡ start)
outermost_closes {most} items members old start t all kind first heap places new mid left p s none is w kept =
    let closed = list_closes kind s.old s.before heap places new mid s.whole left first p s.list none s.begins w kept in
    let around : (s.old ≡ old) × (s.before ≡ start) × (s.whole ≡ t) = subst (λ z. Around most items members old start t z s.old s.before s.whole) (ap reverse is) s.around in
    (subst (λ z. Put most old z new p) around.2 (subst (λ z. Put most z s.whole new p) around.0 closed.0), closed.1 ∙ around.1)

-- ---- what is left

-- how many leaves and lists are left, with each open list
abbrev pub left_size : {N K A O : Type 0} → (A → List Tree) → (O → List (List ℕ × Tree)) → List (UnfinishedList N K A O) → ℕ
left_size items members [] = 0
left_size items members (o ∷ os) = suc (children_size (left_of items members o) + left_size items members os)
