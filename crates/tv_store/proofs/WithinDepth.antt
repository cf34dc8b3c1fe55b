-- Lists that are open nest within a limit where what is left of them does.
use Rattle.std.proofs.Common.{◌≡◌, ℕ, zero, suc, ◌-◌, ◌+◌, ◌<◌, ◌≤◌, List, [], ◌∷◌, ◌++◌, length, append_assoc, append-nil, sym, ◌∙◌, ap, subst, arith}
use Rattle.std.specs.Prelude.{◌↔◌}
use Rattle.std.specs.List.{sum_by}
use Rattle.std.proofs.lemmas.List.Sums.{sum_by_push}
use Rattle.tv_format.specs.Tree.{Tree, leaf, array, object, Leaf, Elements, no_elements, element, Entries, no_entries, entry}
use Rattle.tv_value.proofs.ListChildren.{list_size, list_nests, no_list_within_0}
use Rattle.tv_value.specs.Children.{Child, IsListOf, children_size, ChildrenNestWithin}
use Rattle.tv_value.specs.Nesting.{NestsWithin, ElementsNestWithin, EntriesNestWithin}

-- ---- what nests within this many lists nests within more

mutual
  pub nests_more : (m n : ℕ) (t : Tree) → m ≤ n → NestsWithin m t → NestsWithin n t
  nests_more m n (leaf l) le h = tt
  nests_more zero n (array ts) le h = absurd h
  nests_more (suc m) zero (array ts) le h = absurd (omega arith)
  nests_more (suc m) (suc n) (array ts) le h = elements_more m n ts (omega arith) h
  nests_more zero n (object es) le h = absurd h
  nests_more (suc m) zero (object es) le h = absurd (omega arith)
  nests_more (suc m) (suc n) (object es) le h = entries_more m n es (omega arith) h

  elements_more : (m n : ℕ) (ts : Elements) → m ≤ n → ElementsNestWithin m ts → ElementsNestWithin n ts
  elements_more m n no_elements le h = tt
  elements_more m n (element t ts) le h = (nests_more m n t le h.0, elements_more m n ts le h.1)

  entries_more : (m n : ℕ) (es : Entries) → m ≤ n → EntriesNestWithin m es → EntriesNestWithin n es
  entries_more m n no_entries le h = tt
  entries_more m n (entry k t es) le h = (nests_more m n t le h.0, entries_more m n es le h.1)

-- ---- open lists

module _ {R : Type 0} (left : R → List Child) where
  -- What is left of open lists nests within this many, the outermost first: each stands in the one before it.
  abbrev pub OpenNestWithin : ℕ → List R → Type 0
  OpenNestWithin n [] = Unit {0}
  OpenNestWithin n (list ∷ inner) = ChildrenNestWithin n (left list) × OpenNestWithin (n - 1) inner

  split : (n m : ℕ) (around inner : List R) → m ≡ n - length around → OpenNestWithin n (around ++ inner) ↔ (OpenNestWithin n around × OpenNestWithin m inner)
  split n m [] inner e =
      let same : m ≡ n = omega (arith, e) in
      (λ h. (tt, subst (λ k. OpenNestWithin k inner) (sym same) h), λ h. subst (λ k. OpenNestWithin k inner) same h.1)
  split n m (r ∷ rs) inner e =
      let more = split (n - 1) m rs inner (omega (arith, e)) in
      (λ h. (let both = more.0 h.1 in ((h.0, both.0), both.1)), λ h. (h.0.0, more.1 (h.0.1, h.1)))

  -- so far: the whole nests so where the open lists do, of which the innermost stands apart
  abbrev pub SoFar : Type 0 → ℕ → List R → R → Type 0
  SoFar whole n around list = whole ↔ OpenNestWithin n (around ++ list ∷ [])

  -- other innermost lists nest alike
  exchanged : (whole : Type 0) (n m : ℕ) (around old new : List R) → m ≡ n - length around → OpenNestWithin m old ↔ OpenNestWithin m new
      → whole ↔ OpenNestWithin n (around ++ old) → whole ↔ OpenNestWithin n (around ++ new)
  exchanged whole n m around old new e alike so_far =
      let was = split n m around old e in
      let is = split n m around new e in
      (λ h. (let both = was.0 (so_far.0 h) in is.1 (both.0, alike.0 both.1)), λ h. (let both = is.0 h in so_far.1 (was.1 (both.0, alike.1 both.1))))

  pub leaf_passed : (whole : Type 0) (n : ℕ) (around : List R) (old new : R) (child : Child) (l : Leaf) → left old ≡ child ∷ left new → child.1 ≡ leaf l
      → SoFar whole n around old → SoFar whole n around new
  leaf_passed whole n around old new child l cut is =
      let m = n - length around in
      exchanged whole n m around (old ∷ []) (new ∷ []) (omega arith)
      (λ h. ((subst (ChildrenNestWithin m) cut h.0).1, tt), λ h. (subst (ChildrenNestWithin m) (sym cut) (subst (NestsWithin m) (sym is) tt, h.0), tt))

  pub list_opened : (whole : Type 0) (n : ℕ) (around more : List R) (old new inner : R) (child : Child) → left old ≡ child ∷ left new → IsListOf (left inner) child.1 → length around < n
      → more ≡ around ++ new ∷ [] → SoFar whole n around old → SoFar whole n more inner
  list_opened whole n around more old new inner child cut is less pushed so_far =
      let m = n - length around in
      let same = list_nests m (m - 1) (left inner) child.1 is (omega (arith, less)) in
      subst (λ z. whole ↔ OpenNestWithin n z) (sym (append_assoc around (new ∷ []) (inner ∷ [])) ∙ ap (λ z. z ++ inner ∷ []) (sym pushed))
      (exchanged whole n m around (old ∷ []) (new ∷ inner ∷ []) (omega arith) (
        λ h. (let parts = subst (ChildrenNestWithin m) cut h.0 in (parts.1, (subst (λ z. z) same parts.0, tt))),
        λ h. (subst (ChildrenNestWithin m) (sym cut) (subst (λ z. z) (sym same) h.1.0, h.0), tt),
      )
      so_far)

  pub opened_smaller : (around more : List R) (old new inner : R) (child : Child) → left old ≡ child ∷ left new → IsListOf (left inner) child.1 → more ≡ around ++ new ∷ []
      → children_size (left inner) + sum_by (λ o. suc (children_size (left o))) more < children_size (left old) + sum_by (λ o. suc (children_size (left o))) around
  opened_smaller around more old new inner child cut is pushed =
      let sizes = ap children_size cut in
      let whole = list_size (left inner) child.1 is in
      let sums = ap (sum_by (λ (o : R). suc (children_size (left o)))) pushed in
      let sum = sum_by_push (λ (o : R). suc (children_size (left o))) around new in
      omega (arith, sizes, whole, sums, sum)

  -- the innermost is passed
  pub list_passed : (whole : Type 0) (n : ℕ) (around : List R) (old : R) → left old ≡ [] → SoFar whole n around old → whole ↔ OpenNestWithin n around
  list_passed whole n around old none so_far =
      let m = n - length around in
      subst (λ z. whole ↔ OpenNestWithin n z) (append-nil around)
      (exchanged whole n m around (old ∷ []) [] (omega arith) (λ h. tt, λ h. (subst (ChildrenNestWithin m) (sym none) tt, tt)) so_far)

  -- a list was met where no more may be open
  pub too_many : (whole : Type 0) (n : ℕ) (around : List R) (old new inner : R) (child : Child) → left old ≡ child ∷ left new → IsListOf (left inner) child.1 → length around ≡ n
      → SoFar whole n around old → ¬ whole
  too_many whole n around old new inner child cut is all so_far = λ h.
      no_list_within_0 (left inner) child.1 is (subst (ChildrenNestWithin 0) cut ((split n 0 around (old ∷ []) (omega (arith, all))).0 (so_far.0 h)).1.0).0
