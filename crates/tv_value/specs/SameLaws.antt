-- The test decides whether two values are one.
use Rattle.std.proofs.Common.{◌≡◌, ℕ, List, Bool, true, false, Decides, refl, ap, sym, ◌∙◌, subst}
use Rattle.std.proofs.lemmas.Bool.Decides.{Decides-eqb, Decides-int_eq}
use Rattle.std.proofs.lemmas.Slice.Eq.{bytes_eq-Decides}
use Rattle.std.specs.Prelude.{nat_eq}
use Rattle.std.specs.Str.{bytes_eq}
use Rattle.std.proofs.lemmas.Bool.{and_from, and_parts}
use Rattle.tv_value.specs.SameTokensLaws.{tokenized_eq-Decides}
use Rattle.tv_format.specs.Content.{Content, no_content, truth_content, unsigned_content, signed_content}
use Rattle.tv_format.specs.Content.{wide_content, text_content, bytes_content, tokens_content}
use Rattle.tv_format.specs.Leaves.{type_of, content}
use Rattle.tv_format.specs.LeavesLaws.{one_leaf, one_code}
use Rattle.tv_format.specs.Encoding.{leaf_code}
use Rattle.tv_format.specs.Tree.{Leaf, Tree, leaf, array, object, Elements, no_elements, element, Entries}
use Rattle.tv_format.specs.Tree.{no_entries, entry}
use Rattle.tv_value.specs.Same.{bool_eq, content_eq, leaf_eq, tree_eq, elements_eq, entries_eq}

bool_same : (a b : Bool) → bool_eq a b ≡ true → a ≡ b
bool_same true b h = sym h
bool_same false true h = h
bool_same false false h = refl

bool_refl : (a : Bool) → bool_eq a a ≡ true
bool_refl true = refl
bool_refl false = refl

number_refl : (n : ℕ) → nat_eq n n ≡ true
number_refl n = (Decides-eqb n n).1 refl

pub bytes_refl : (s : List ℕ) → bytes_eq s s ≡ true
bytes_refl s = (bytes_eq-Decides s s).1 refl

content_same : (h i : Content) → content_eq h i ≡ true → h ≡ i
content_same no_content no_content h = refl
content_same (truth_content a) (truth_content b) h = ap truth_content (bool_same a b h)
content_same (unsigned_content m) (unsigned_content n) h = ap unsigned_content ((Decides-eqb m n).0 h)
content_same (signed_content y) (signed_content z) h = ap signed_content ((Decides-int_eq y z).0 h)
content_same (wide_content m) (wide_content n) h = ap wide_content ((Decides-eqb m n).0 h)
content_same (text_content s) (text_content t) h = ap text_content ((bytes_eq-Decides s t).0 h)
content_same (bytes_content s) (bytes_content t) h = ap bytes_content ((bytes_eq-Decides s t).0 h)
content_same (tokens_content s ss) (tokens_content t ts) h = ap (λ x. tokens_content x.0 x.1)
    ((tokenized_eq-Decides (s, ss) (t, ts)).0 h)
content_same _ _ h = cc

content_refl : (h : Content) → content_eq h h ≡ true
content_refl no_content = refl
content_refl (truth_content a) = bool_refl a
content_refl (unsigned_content n) = number_refl n
content_refl (signed_content z) = (Decides-int_eq z z).1 refl
content_refl (wide_content n) = number_refl n
content_refl (text_content s) = bytes_refl s
content_refl (bytes_content s) = bytes_refl s
content_refl (tokens_content s ss) = (tokenized_eq-Decides (s, ss) (s, ss)).1 refl

leaf_same : (l m : Leaf) → leaf_eq l m ≡ true → l ≡ m
leaf_same l m h =
    let code : leaf_code l ≡ leaf_code m = (Decides-eqb (leaf_code l) (leaf_code m)).0 (and_parts _ _ h).0 in
    one_leaf l m (one_code (type_of l) (type_of m) code)
    (content_same (content l) (content m) (and_parts _ _ h).1)

leaf_refl : (l : Leaf) → leaf_eq l l ≡ true
leaf_refl l = and_from _ _ (number_refl (leaf_code l)) (content_refl (content l))

mutual
  tree_same : (t u : Tree) → tree_eq t u ≡ true → t ≡ u
  tree_same (leaf l) (leaf m) h = ap leaf (leaf_same l m h)
  tree_same (array ts) (array us) h = ap array (elements_same ts us h)
  tree_same (object es) (object fs) h = ap object (entries_same es fs h)
  tree_same _ _ h = cc

  elements_same : (ts us : Elements) → elements_eq ts us ≡ true → ts ≡ us
  elements_same no_elements no_elements h = refl
  elements_same (element t ts) (element u us) h =
      ap (λ x. element x ts) (tree_same t u (and_parts _ _ h).0) ∙ ap (element u)
      (elements_same ts us (and_parts _ _ h).1)
  elements_same _ _ h = cc

  entries_same : (es fs : Entries) → entries_eq es fs ≡ true → es ≡ fs
  entries_same no_entries no_entries h = refl
  entries_same (entry k t es) (entry j u fs) h =
      let head = (and_parts _ _ h).0 in
      ap (λ x. entry x t es) ((bytes_eq-Decides k j).0 (and_parts _ _ head).0)
      ∙ (ap (λ x. entry j x es) (tree_same t u (and_parts _ _ head).1) ∙ ap (entry j u)
      (entries_same es fs (and_parts _ _ h).1))
  entries_same _ _ h = cc

mutual
  tree_refl : (t : Tree) → tree_eq t t ≡ true
  tree_refl (leaf l) = leaf_refl l
  tree_refl (array ts) = elements_refl ts
  tree_refl (object es) = entries_refl es

  elements_refl : (ts : Elements) → elements_eq ts ts ≡ true
  elements_refl no_elements = refl
  elements_refl (element t ts) = and_from _ _ (tree_refl t) (elements_refl ts)

  entries_refl : (es : Entries) → entries_eq es es ≡ true
  entries_refl no_entries = refl
  entries_refl (entry k t es) = and_from _ _ (and_from _ _ (bytes_refl k) (tree_refl t)) (entries_refl es)

pub leaf_eq-Decides : (l m : Leaf) → Decides (leaf_eq l m) (l ≡ m)
leaf_eq-Decides l m = (leaf_same l m, λ e. subst (λ x. leaf_eq l x ≡ true) e (leaf_refl l))

pub tree_eq-Decides : (t u : Tree) → Decides (tree_eq t u) (t ≡ u)
tree_eq-Decides t u = (tree_same t u, λ e. subst (λ x. tree_eq t x ≡ true) e (tree_refl t))
