-- A code for trees, so that a model's value may hold them.
use Rattle.std.specs.Prelude.{◌≡◌, ℕ, List, refl}
use Rattle.std.proofs.Common.{ap}
use Rattle.std.specs.Coded.{Coded, code_by, coded×, coded_list, coded_ℕ, coded_ℤ, coded_bool}
use base.Stored.{Gv, gnil, gnum, gcons}
use Rattle.tv_format.specs.Content.{Content, no_content, truth_content, unsigned_content, signed_content}
use Rattle.tv_format.specs.Content.{wide_content, text_content, bytes_content, tokens_content}
use Rattle.tv_format.specs.Leaves.{type_of, content}
use Rattle.tv_format.specs.LeavesLaws.{one_leaf, one_code}
use Rattle.tv_format.specs.Encoding.{leaf_code}
use Rattle.tv_format.specs.Tree.{Token, Leaf, Tree, leaf, array, object, Elements, no_elements, element}
use Rattle.tv_format.specs.Tree.{Entries, no_entries, entry}

abbrev pub coded_text : Coded (List ℕ)
coded_text = coded_list coded_ℕ

abbrev pub coded_token : Coded Token
coded_token =
    code_by (ℕ × (ℕ × (ℕ × (List ℕ × ℕ)))) (coded× coded_ℕ
    (coded× coded_ℕ (coded× coded_ℕ (coded× coded_text coded_ℕ))))
    (λ t. (t.offset_from, (t.offset_to, (t.position, (t.text, t.position_length)))))
    (λ p. record {
      offset_from = p.0;
      offset_to = p.1.0;
      position = p.1.1.0;
      text = p.1.1.1.0;
      position_length = p.1.1.1.1;
    })
    (λ _. refl)

abbrev pub coded_tokenized : Coded (List ℕ × List Token)
coded_tokenized = coded× coded_text (coded_list coded_token)

abbrev pub content_gv : Content → Gv
content_gv no_content = gnil
content_gv (truth_content b) = gcons (gnum 0) (coded_bool.code b)
content_gv (unsigned_content n) = gcons (gnum 1) (coded_ℕ.code n)
content_gv (signed_content z) = gcons (gnum 2) (coded_ℤ.code z)
content_gv (wide_content n) = gcons (gnum 3) (coded_ℕ.code n)
content_gv (text_content t) = gcons (gnum 4) (coded_text.code t)
content_gv (bytes_content t) = gcons (gnum 5) (coded_text.code t)
content_gv (tokens_content t ts) = gcons (gnum 6) (coded_tokenized.code (t, ts))

abbrev pub leaf_gv : Leaf → Gv
leaf_gv the_leaf = gcons (gnum (leaf_code the_leaf)) (content_gv (content the_leaf))

abbrev tail : Gv → Gv
tail gnil = gnil
tail (gnum n) = gnil
tail (gcons a b) = b

abbrev head : Gv → Gv
head gnil = gnil
head (gnum n) = gnil
head (gcons a b) = a

abbrev number : Gv → ℕ
number gnil = 0
number (gnum n) = n
number (gcons a b) = 0

content_same : (s t : Content) → content_gv s ≡ content_gv t → s ≡ t
content_same no_content no_content e = refl
content_same (truth_content s) (truth_content t) e = ap truth_content (coded_bool.inj s t (ap tail e))
content_same (unsigned_content s) (unsigned_content t) e = ap unsigned_content (coded_ℕ.inj s t (ap tail e))
content_same (signed_content s) (signed_content t) e = ap signed_content (coded_ℤ.inj s t (ap tail e))
content_same (wide_content s) (wide_content t) e = ap wide_content (coded_ℕ.inj s t (ap tail e))
content_same (text_content s) (text_content t) e = ap text_content (coded_text.inj s t (ap tail e))
content_same (bytes_content s) (bytes_content t) e = ap bytes_content (coded_text.inj s t (ap tail e))
content_same (tokens_content s ss) (tokens_content t ts) e =
    ap (λ (p : List ℕ × List Token). tokens_content p.0 p.1) (coded_tokenized.inj (s, ss) (t, ts) (ap tail e))
content_same _ _ e = cc

pub leaf_same : (s t : Leaf) → leaf_gv s ≡ leaf_gv t → s ≡ t
leaf_same the_leaf t e = one_leaf the_leaf t (one_code (type_of the_leaf) (type_of t)
    (ap (λ g. number (head g)) e))
    (content_same (content the_leaf) (content t) (ap tail e))

abbrev mutual
  pub tree_gv : Tree → Gv
  tree_gv (leaf l) = gcons (gnum 0) (leaf_gv l)
  tree_gv (array ts) = gcons (gnum 1) (elements_gv ts)
  tree_gv (object es) = gcons (gnum 2) (entries_gv es)

  pub elements_gv : Elements → Gv
  elements_gv no_elements = gnil
  elements_gv (element t ts) = gcons (tree_gv t) (elements_gv ts)

  pub entries_gv : Entries → Gv
  entries_gv no_entries = gnil
  entries_gv (entry k t es) = gcons (coded_text.code k) (gcons (tree_gv t) (entries_gv es))

mutual
  pub tree_same : (s t : Tree) → tree_gv s ≡ tree_gv t → s ≡ t
  tree_same (leaf l) (leaf m) e = ap leaf (leaf_same l m (ap tail e))
  tree_same (array ts) (array us) e = ap array (elements_same ts us (ap tail e))
  tree_same (object es) (object fs) e = ap object (entries_same es fs (ap tail e))
  tree_same _ _ e = cc

  pub elements_same : (ts us : Elements) → elements_gv ts ≡ elements_gv us → ts ≡ us
  elements_same no_elements no_elements e = refl
  elements_same (element t ts) (element u us) e = λ i. element (tree_same t u (ap head e) i)
      (elements_same ts us (ap tail e) i)
  elements_same _ _ e = cc

  pub entries_same : (es fs : Entries) → entries_gv es ≡ entries_gv fs → es ≡ fs
  entries_same no_entries no_entries e = refl
  entries_same (entry k t es) (entry l u fs) e =
      λ i. entry (coded_text.inj k l (ap head e) i) (tree_same t u (ap (λ g. head (tail g)) e) i)
      (entries_same es fs (ap (λ g. tail (tail g)) e) i)
  entries_same _ _ e = cc

abbrev pub coded_leaf : Coded Leaf
coded_leaf = record { code = leaf_gv; inj = leaf_same }

abbrev pub coded_tree : Coded Tree
coded_tree = record { code = tree_gv; inj = tree_same }

abbrev pub coded_document : Coded (List (ℕ × Tree))
coded_document = coded_list (coded× coded_ℕ coded_tree)
