-- Which bytes of a heap stand for which tree.
use Rattle.std.specs.Prelude.{◌≡◌, ◌≢◌, ℕ, ◌<◌, ◌^◌, Bool, true, false, List, [], ◌∷◌, ◌++◌, length, IsUtf8}
use Rattle.tv_base.specs.Number.{vnum, Fixed, Signed}
use Rattle.tv_base.specs.Parts.{short_sized}
use Rattle.tv_format.specs.Short.{short_tokenized, IsText, AreTokens}
use Rattle.tv_format.specs.Content.{Content, no_content, truth_content, unsigned_content, signed_content}
use Rattle.tv_format.specs.Content.{wide_content, text_content, bytes_content, tokens_content}
use Rattle.tv_format.specs.Leaves.{type_of, content, heap_code}
use Rattle.tv_format.specs.Tree.{Token, Leaf, Tree, leaf, array, object, Elements, no_elements, element}
use Rattle.tv_format.specs.Tree.{Entries, no_entries, entry}

-- bytes of some kind stand at a place of the heap
pub record Stands (heap : List ℕ) (at : ℕ) (Holds : List ℕ → Type 0) : Type 0 where
  pub before : List ℕ
  pub whole : List ℕ
  pub behind : List ℕ
  pub joined : heap ≡ before ++ (whole ++ behind)
  pub place : length before ≡ at
  pub stands : Holds whole

-- the content after its length, in the shortest encoding
pub record ShortSized (content whole : List ℕ) : Type 0 where
  pub is : whole ≡ short_sized content
  pub fits : length content < 2 ^ 32

pub record ShortText (content whole : List ℕ) : Type 0 where
  pub sized : ShortSized content whole
  pub utf8 : IsUtf8 content

-- a text and its tokens, in the shortest encoding
pub record ShortTokenized (content : List ℕ) (tokens : List Token) (whole : List ℕ) : Type 0 where
  pub is : whole ≡ short_tokenized content tokens
  pub content_fits : IsText content
  pub tokens_fit : AreTokens tokens

-- the type bytes
abbrev pub leaf_type_byte : Leaf → ℕ
leaf_type_byte the_leaf = heap_code (type_of the_leaf)

abbrev pub tree_type : Tree → ℕ
tree_type (leaf l) = leaf_type_byte l
tree_type (array ts) = 12
tree_type (object es) = 11

abbrev pub flag : Bool → ℕ
flag false = 0
flag true = 1

-- what stands at the address of what a leaf holds; nothing and a truth value have no bytes
abbrev pub ContentStands : List ℕ → ℕ → Content → Type 0
ContentStands heap at no_content = at ≡ 0
ContentStands heap at (truth_content b) = at ≡ flag b
ContentStands heap at (unsigned_content n) = Stands heap at (λ w. Fixed 8 w n)
ContentStands heap at (signed_content z) = Stands heap at (λ w. Signed w z)
ContentStands heap at (wide_content n) = Stands heap at (λ w. Fixed 16 w n)
ContentStands heap at (text_content t) = Stands heap at (λ w. ShortText t w)
ContentStands heap at (bytes_content bs) = Stands heap at (λ w. ShortSized bs w)
ContentStands heap at (tokens_content t ts) = Stands heap at (λ w. ShortTokenized t ts w)

abbrev pub LeafStands : List ℕ → ℕ → Leaf → Type 0
LeafStands heap at the_leaf = ContentStands heap at (content the_leaf)

-- the type byte and the address of a child, and then the others; a child that has bytes lies below its parent
pub record ListedChild (parent : ℕ) (ReadsChild : ℕ → ℕ → Type 0) (HoldsNext : List ℕ → Type 0)
    (whole : List ℕ) : Type 0 where
  pub code : ℕ
  pub at : ℕ
  pub rest : List ℕ
  pub joined : whole ≡ code ∷ (vnum at ++ rest)
  pub fits : at < 2 ^ 32
  pub below : code ≢ 0 → code ≢ 9 → at < parent
  pub reads : ReadsChild code at
  pub others : HoldsNext rest

-- after its length stands the list of the children
pub record Listed (heap : List ℕ) (at : ℕ) (Holds : List ℕ → Type 0) : Type 0 where
  pub list : List ℕ
  pub stands : Stands heap at (λ w. ShortSized list w)
  pub children : Holds list

-- the tree that stands at an address, of the type of this byte
abbrev mutual
  pub ReadsTree : List ℕ → ℕ → ℕ → Tree → Type 0
  ReadsTree heap code at (leaf l) = (code ≡ leaf_type_byte l) × LeafStands heap at l
  ReadsTree heap code at (array ts) = (code ≡ 12) × Listed heap at (λ b. ReadsElements heap at b ts)
  ReadsTree heap code at (object es) = (code ≡ 11) × Listed heap at (λ b. ReadsEntries heap at b es)

  pub ReadsElements : List ℕ → ℕ → List ℕ → Elements → Type 0
  ReadsElements heap parent whole no_elements = whole ≡ []
  ReadsElements heap parent whole (element t ts) = ListedChild parent (λ code at. ReadsTree heap code at t)
      (λ b. ReadsElements heap parent b ts) whole

  -- of an entry, the key and then the value
  pub ReadsEntries : List ℕ → ℕ → List ℕ → Entries → Type 0
  ReadsEntries heap parent whole no_entries = whole ≡ []
  ReadsEntries heap parent whole (entry k t es) =
      ListedChild parent (λ code at. (code ≡ 1) × Stands heap at (λ w. ShortText k w))
      (λ b. ListedChild parent (λ code at. ReadsTree heap code at t) (λ c. ReadsEntries heap parent c es) b)
      whole
