-- The encoding with the fewest bytes, and what has one.
use Rattle.std.specs.Prelude.{ℕ, ◌^◌, ◌<◌, List, [], ◌∷◌, ◌++◌, length, IsUtf8, FitsSigned}
use Rattle.std.specs.Int.{w64}
use Rattle.std.specs.List.{AllByRecursion, flat_map}
use Rattle.tv_base.specs.Parts.{short_sized}
use Rattle.tv_base.specs.Number.{vnum, four_bytes, eight_bytes, sixteen_bytes, signed_bytes, truth_byte}
use Rattle.tv_format.specs.Version.{Version, V1, V2, V3, entry_total}
use Rattle.tv_format.specs.Content.{Content, no_content, truth_content, unsigned_content, signed_content}
use Rattle.tv_format.specs.Content.{wide_content, text_content, bytes_content, tokens_content}
use Rattle.tv_format.specs.Leaves.{content}
use Rattle.tv_format.specs.Encoding.{leaf_code}
use Rattle.tv_format.specs.Tree.{Token, Leaf, Tree, leaf, array, object, Elements, no_elements, element}
use Rattle.tv_format.specs.Tree.{Entries, no_entries, entry, element_count, entry_count, Document}

abbrev pub short_token : Token → List ℕ
short_token token =
    vnum token.offset_from ++ (vnum token.offset_to
    ++ (vnum token.position ++ (short_sized token.text ++ vnum token.position_length)))

abbrev pub short_tokenized : List ℕ → List Token → List ℕ
short_tokenized content tokens = short_sized content ++ (vnum (length tokens) ++ flat_map short_token tokens)

abbrev pub short_content : Content → List ℕ
short_content no_content = []
short_content (truth_content b) = truth_byte b
short_content (unsigned_content n) = eight_bytes n
short_content (signed_content z) = signed_bytes z
short_content (wide_content n) = sixteen_bytes n
short_content (text_content t) = short_sized t
short_content (bytes_content bs) = short_sized bs
short_content (tokens_content t ts) = 0 ∷ short_tokenized t ts

abbrev pub short_leaf : Leaf → List ℕ
short_leaf the_leaf = leaf_code the_leaf ∷ short_content (content the_leaf)

-- a key
abbrev pub short_key : Version → List ℕ → List ℕ
short_key V1 k = 0 ∷ short_sized k
short_key V2 k = 0 ∷ short_sized k
short_key V3 k = short_sized k

module _ (v : Version) where
  abbrev mutual
    pub short : Tree → List ℕ
    short (leaf l) = short_leaf l
    short (array ts) = 12 ∷ (vnum (element_count ts) ++ short_elements ts)
    short (object es) = 13 ∷ (vnum (entry_total v (entry_count es)) ++ short_entries es)

    pub short_elements : Elements → List ℕ
    short_elements no_elements = []
    short_elements (element t ts) = short t ++ short_elements ts

    pub short_entries : Entries → List ℕ
    short_entries no_entries = []
    short_entries (entry k t es) = short_key v k ++ (short t ++ short_entries es)

  abbrev pub short_pair : ℕ × Tree → List ℕ
  short_pair pair = four_bytes pair.0 ++ short pair.1

  abbrev pub short_document : Document → List ℕ
  short_document document = vnum (length document) ++ flat_map short_pair document

-- what has an encoding of a version that is written, with lengths and counts below 2 ^ 63
pub record IsSized (content : List ℕ) : Type 0 where
  pub size : length content < 2 ^ 63

pub record IsText (content : List ℕ) : Type 0 where
  pub size : length content < 2 ^ 63
  pub utf8 : IsUtf8 content

pub record IsToken (token : Token) : Type 0 where
  pub offset_from : token.offset_from < 2 ^ 64
  pub offset_to : token.offset_to < 2 ^ 64
  pub position : token.position < 2 ^ 64
  pub text : IsText token.text
  pub position_length : token.position_length < 2 ^ 64

pub record AreTokens (tokens : List Token) : Type 0 where
  pub count : length tokens < 2 ^ 63
  pub each : AllByRecursion IsToken tokens

abbrev pub IsContent : Content → Type 0
IsContent no_content = Unit {0}
IsContent (truth_content b) = Unit {0}
IsContent (unsigned_content n) = n < 2 ^ 64
IsContent (signed_content z) = FitsSigned w64 z
IsContent (wide_content n) = n < 2 ^ 128
IsContent (text_content t) = IsText t
IsContent (bytes_content bs) = IsSized bs
IsContent (tokens_content t ts) = IsText t × AreTokens ts

abbrev pub IsLeaf : Leaf → Type 0
IsLeaf the_leaf = IsContent (content the_leaf)

abbrev mutual
  pub IsValue : Tree → Type 0
  IsValue (leaf l) = IsLeaf l
  IsValue (array ts) = (element_count ts < 2 ^ 63) × AreElements ts
  IsValue (object es) = (entry_count es < 2 ^ 63) × AreEntries es

  pub AreElements : Elements → Type 0
  AreElements no_elements = Unit {0}
  AreElements (element t ts) = IsValue t × AreElements ts

  pub AreEntries : Entries → Type 0
  AreEntries no_entries = Unit {0}
  AreEntries (entry k t es) = IsText k × IsValue t × AreEntries es

pub record IsPair (pair : ℕ × Tree) : Type 0 where
  pub field : pair.0 < 2 ^ 32
  pub value : IsValue pair.1

pub record IsDocument (document : Document) : Type 0 where
  pub count : length document < 2 ^ 63
  pub each : AllByRecursion IsPair document
