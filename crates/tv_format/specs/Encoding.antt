-- What bytes encode which values.
use Rattle.std.specs.Prelude.{◌≡◌, ℕ, ◌⊎◌, List, [], ◌++◌}
use Rattle.tv_format.specs.Content.{Content, no_content, truth_content, unsigned_content, signed_content}
use Rattle.tv_format.specs.Content.{wide_content, text_content, bytes_content, tokens_content}
use Rattle.tv_format.specs.Leaves.{type_of, content, store_code, scale}
use Rattle.tv_format.specs.Tree.{Token, Leaf, Tree, leaf, array, object, Elements, no_elements, element}
use Rattle.tv_format.specs.Tree.{Entries, no_entries, entry, element_count, entry_count, Document}
use Rattle.tv_base.specs.Number.{VNum, Fixed, Truth}
use Rattle.tv_base.specs.Parts.{Then, Behind, Sized, Text, Counted}
use Rattle.tv_format.specs.Version.{Version, V1, V2, V3, Scale, Scaled, entry_total}

-- five parts, one after the other
abbrev pub TokenEncoding : List ℕ → Token → Type 0
TokenEncoding whole token =
    Then (λ b. VNum b token.offset_from)
    (Then (λ b. VNum b token.offset_to)
    (Then (λ b. VNum b token.position)
    (Then (λ b. Text b token.text)
    (λ b. VNum b token.position_length)))) whole

-- the text, and the tokens
abbrev pub Tokenized : List ℕ → List ℕ → List Token → Type 0
Tokenized whole content tokens = Then (λ b. Text b content) (λ b. Counted TokenEncoding b tokens) whole

abbrev pub leaf_code : Leaf → ℕ
leaf_code the_leaf = store_code (type_of the_leaf)

-- what is held, with its numbers on a scale; a text with its tokens stands after a code of its own
abbrev pub ContentBody : Scale → List ℕ → Content → Type 0
ContentBody s whole no_content = whole ≡ []
ContentBody s whole (truth_content b) = Truth whole b
ContentBody s whole (unsigned_content n) = Fixed 8 whole n
ContentBody s whole (signed_content z) = Scaled s whole z
ContentBody s whole (wide_content n) = Fixed 16 whole n
ContentBody s whole (text_content t) = Text whole t
ContentBody s whole (bytes_content bs) = Sized whole bs
ContentBody s whole (tokens_content t ts) = Behind 0 (λ b. Tokenized b t ts) whole

-- what stands after the code of a leaf
abbrev pub LeafBody : Version → List ℕ → Leaf → Type 0
LeafBody version whole the_leaf = ContentBody (scale version (type_of the_leaf)) whole (content the_leaf)

-- a key: a text, with its code in versions 1 and 2
abbrev pub Key : Version → List ℕ → List ℕ → Type 0
Key V1 whole k = Behind 0 (λ b. Text b k) whole
Key V2 whole k = Behind 0 (λ b. Text b k) whole
Key V3 whole k = Text whole k

-- The store also has objects in a legacy form, after code 8. `Legacy` says what encodes them there.
module _ (Legacy : List ℕ → Entries → Type 0) (v : Version) where
  abbrev mutual
    pub Encodes : List ℕ → Tree → Type 0
    Encodes whole (leaf l) = Behind (leaf_code l) (λ b. LeafBody v b l) whole
    Encodes whole (array ts) = Behind 12 (Then (λ b. VNum b (element_count ts)) (λ b. EncodesElements b ts))
        whole
    Encodes whole (object es) =
        Behind 13 (Then (λ b. VNum b (entry_total v (entry_count es))) (λ b. EncodesEntries b es)) whole
        ⊎ Behind 8 (λ b. Legacy b es) whole

    pub EncodesElements : List ℕ → Elements → Type 0
    EncodesElements whole no_elements = whole ≡ []
    EncodesElements whole (element t ts) = Then (λ b. Encodes b t) (λ b. EncodesElements b ts) whole

    pub EncodesEntries : List ℕ → Entries → Type 0
    EncodesEntries whole no_entries = whole ≡ []
    EncodesEntries whole (entry k t es) = Then (λ b. Key v b k)
        (Then (λ b. Encodes b t) (λ b. EncodesEntries b es)) whole

  -- a field in 4 bytes, and a value
  abbrev pub EncodesPair : List ℕ → ℕ × Tree → Type 0
  EncodesPair whole pair = Then (λ b. Fixed 4 b pair.0) (λ b. Encodes b pair.1) whole

  -- the number of the pairs, and then each
  abbrev pub EncodesDocument : List ℕ → Document → Type 0
  EncodesDocument whole document = Counted EncodesPair whole document

  -- some prefix of the bytes encodes the document
  pub record Derives (whole : List ℕ) (document : Document) : Type 0 where
    pub prefix : List ℕ
    pub rest : List ℕ
    pub joined : whole ≡ prefix ++ rest
    pub encoded : EncodesDocument prefix document

-- no legacy object
abbrev pub NoLegacy : List ℕ → Entries → Type 0
NoLegacy whole members = ⊥
