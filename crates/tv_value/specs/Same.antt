-- A test that two values are one.
use Rattle.std.specs.Prelude.{Bool, true, false, ◌&&◌, nat_eq}
use Rattle.std.specs.Ordering.{int_eq}
use Rattle.std.specs.Str.{bytes_eq}
use Rattle.tv_value.specs.SameTokens.{tokenized_eq}
use Rattle.tv_format.specs.Content.{Content, no_content, truth_content, unsigned_content, signed_content}
use Rattle.tv_format.specs.Content.{wide_content, text_content, bytes_content, tokens_content}
use Rattle.tv_format.specs.Leaves.{content}
use Rattle.tv_format.specs.Encoding.{leaf_code}
use Rattle.tv_format.specs.Tree.{Leaf, Tree, leaf, array, object, Elements, no_elements, element, Entries}
use Rattle.tv_format.specs.Tree.{no_entries, entry}

abbrev pub bool_eq : Bool → Bool → Bool
bool_eq true b = b
bool_eq false true = false
bool_eq false false = true

abbrev pub content_eq : Content → Content → Bool
content_eq no_content no_content = true
content_eq (truth_content a) (truth_content b) = bool_eq a b
content_eq (unsigned_content m) (unsigned_content n) = nat_eq m n
content_eq (signed_content y) (signed_content z) = int_eq y z
content_eq (wide_content m) (wide_content n) = nat_eq m n
content_eq (text_content s) (text_content t) = bytes_eq s t
content_eq (bytes_content s) (bytes_content t) = bytes_eq s t
content_eq (tokens_content s ss) (tokens_content t ts) = tokenized_eq (s, ss) (t, ts)
content_eq _ _ = false

-- of one type, with the same content
abbrev pub leaf_eq : Leaf → Leaf → Bool
leaf_eq the_leaf m = nat_eq (leaf_code the_leaf) (leaf_code m) && content_eq (content the_leaf) (content m)

abbrev mutual
  pub tree_eq : Tree → Tree → Bool
  tree_eq (leaf l) (leaf m) = leaf_eq l m
  tree_eq (array ts) (array us) = elements_eq ts us
  tree_eq (object es) (object fs) = entries_eq es fs
  tree_eq _ _ = false

  pub elements_eq : Elements → Elements → Bool
  elements_eq no_elements no_elements = true
  elements_eq (element t ts) (element u us) = tree_eq t u && elements_eq ts us
  elements_eq _ _ = false

  pub entries_eq : Entries → Entries → Bool
  entries_eq no_entries no_entries = true
  entries_eq (entry k t es) (entry j u fs) = (bytes_eq k j && tree_eq t u) && entries_eq es fs
  entries_eq _ _ = false
