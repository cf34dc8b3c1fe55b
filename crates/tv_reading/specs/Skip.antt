-- What is left to pass over of documents and values: the items that open lists still have, the innermost list
-- first.
use Rattle.std.specs.Prelude.{◌≡◌, ◌⊎◌, ℕ, zero, suc, Bool, true, false, List, [], ◌∷◌, ◌++◌, length, reverse}
use Rattle.std.specs.Prelude.{Option, Some, None, IsTrue, ◌↔◌, IsUtf8, Vec}
use Rattle.std.specs.declared.alloc.Global.{Global}
use Rattle.tv_base.specs.declared.cause.Cause.{Cause}
use Rattle.tv_base.specs.declared.cause.Cause.TheVariants.{NotUtf8}
use Rattle.tv_base.specs.Number.{VNum, Fixed}
use Rattle.tv_base.specs.Parts.{Begins, Then, Behind, Sized, Text, Each, Counted}
use Rattle.tv_base.specs.ErrorInPart.{InThen, InEach, ErrorInNumber, ErrorInBytes, ErrorInText}
use Rattle.tv_format.specs.Encoding.{TokenEncoding, Tokenized, Key, Encodes, EncodesDocument}
use Rattle.tv_format.specs.InputError.{Refusal, corrupted, Corrupt, ErrorInToken, ErrorInKey}
use Rattle.tv_format.specs.Tree.{Token, Tree, Document}
use Rattle.tv_format.specs.Version.{Version, entry_total}
use Rattle.tv_reader.specs.Legacy.{Legacy}
use Rattle.tv_reader.specs.Trees.{NoValue}
use Rattle.tv_reading.specs.declared.items.ItemKind.{ItemKind}
use Rattle.tv_reading.specs.declared.items.ItemKind.TheVariants as kinds
use Rattle.tv_reading.specs.declared.items.ItemsLeft.{ItemsLeft}

-- ---- texts and bytes, whatever they hold

abbrev pub IsTextEncoding : List ℕ → Type 0
IsTextEncoding whole = (content : List ℕ) × Text whole content

-- after the code of a text
abbrev pub IsCodedText : List ℕ → Type 0
IsCodedText whole = (content : List ℕ) × Behind 0 (λ bytes. Text bytes content) whole

abbrev pub IsSizedEncoding : List ℕ → Type 0
IsSizedEncoding whole = (content : List ℕ) × Sized whole content

-- this many bytes, or none were taken
abbrev pub PassesBytes : ℕ → List ℕ → Bool → Type 0
PassesBytes number taken true = length taken ≡ number
PassesBytes number taken false = taken ≡ []

-- this many bytes, and whether they are UTF-8
pub record Tested (number : ℕ) (taken : List ℕ) (is_text : Bool) : Type 0 where
  pub many : length taken ≡ number
  pub tested : IsTrue is_text ↔ IsUtf8 taken

-- or none were taken
abbrev pub MayTest : ℕ → List ℕ → Option Bool → Type 0
MayTest number taken (Some is_text) = Tested number taken is_text
MayTest number taken None = taken ≡ []

pub record IsTextOf (number : ℕ) (taken : List ℕ) : Type 0 where
  pub many : length taken ≡ number
  pub utf8 : IsUtf8 taken

-- there are fewer bytes, or they are no UTF-8
pub data ErrorInTextOf (number : ℕ) (whole : List ℕ) : Refusal → Type 0 where
  text_ends : {refusal : Refusal} → Corrupt (ErrorInBytes number) whole refusal
      → ErrorInTextOf number whole refusal
  text_is_none : (content rest : List ℕ) → whole ≡ content ++ rest → length content ≡ number
      → ¬ IsUtf8 content
      → ErrorInTextOf number whole (corrupted NotUtf8)

-- ---- texts with their tokens, whatever they hold

abbrev pub IsNumberEncoding : List ℕ → Type 0
IsNumberEncoding whole = (number : ℕ) × VNum whole number

abbrev pub IsTextAndNumber : List ℕ → Type 0
IsTextAndNumber whole = Then IsTextEncoding IsNumberEncoding whole

abbrev pub ErrorInTextAndNumber : List ℕ → Cause → Type 0
ErrorInTextAndNumber = InThen ErrorInText Text (λ _. ErrorInNumber)

abbrev pub IsTokenEncoding : List ℕ → Type 0
IsTokenEncoding whole = (token : Token) × TokenEncoding whole token

-- this many tokens
pub record AreTokenEncodings (number : ℕ) (whole : List ℕ) : Type 0 where
  pub tokens : List Token
  pub many : length tokens ≡ number
  pub encoded : Each TokenEncoding whole tokens

abbrev pub ErrorInTokens : ℕ → List ℕ → Cause → Type 0
ErrorInTokens number = InEach ErrorInToken TokenEncoding number

-- their number, and each
abbrev pub AreCounted : List ℕ → Type 0
AreCounted whole = (tokens : List Token) × Counted TokenEncoding whole tokens

abbrev pub ErrorInCounted : List ℕ → Cause → Type 0
ErrorInCounted = InThen ErrorInNumber VNum ErrorInTokens

abbrev pub IsTokenizedEncoding : List ℕ → Type 0
IsTokenizedEncoding whole = (content : List ℕ) × (tokens : List Token) × Tokenized whole content tokens

-- ---- one item

-- what stands before the value of an item: nothing, a key, or a field
abbrev pub Before : Version → ItemKind → List ℕ → Type 0
Before version kinds.Value whole = whole ≡ []
Before version kinds.Entry whole = (content : List ℕ) × Key version whole content
Before version kinds.Pair whole = (field : ℕ) × Fixed 4 whole field

abbrev pub ErrorBefore : Version → ItemKind → List ℕ → Refusal → Type 0
ErrorBefore version kinds.Value whole refusal = ⊥
ErrorBefore version kinds.Entry whole refusal = ErrorInKey version whole refusal
ErrorBefore version kinds.Pair whole refusal = Corrupt (ErrorInBytes 4) whole refusal

abbrev pub IsValueEncoding : Version → List ℕ → Type 0
IsValueEncoding version whole = (tree : Tree) × Encodes Legacy version whole tree

abbrev pub IsDocumentEncoding : Version → List ℕ → Type 0
IsDocumentEncoding version whole = (document : Document) × EncodesDocument Legacy version whole document

-- the code of an array or of an object, and how many items it has
abbrev pub OpensList : Version → List ℕ → ItemKind → ℕ → Type 0
OpensList version whole kinds.Value number = Behind 12 (λ bytes. VNum bytes number) whole
OpensList version whole kinds.Entry number = Behind 13
    (λ bytes. VNum bytes (entry_total version number)) whole
OpensList version whole kinds.Pair number = ⊥

-- a whole value, or all that stands before the items of one
abbrev pub OpensValue : Version → List ℕ → Option ItemsLeft → Type 0
OpensValue version whole None = IsValueEncoding version whole
OpensValue version whole (Some items) = OpensList version whole items.kind items.left

abbrev pub OpensItem : Version → ItemKind → List ℕ → Option ItemsLeft → Type 0
OpensItem version kind whole opened = Then (Before version kind)
    (λ bytes. OpensValue version bytes opened) whole

abbrev pub IsItem : Version → ItemKind → List ℕ → Type 0
IsItem version kind whole = Then (Before version kind) (IsValueEncoding version) whole

abbrev pub ErrorInItem : Version → ItemKind → List ℕ → Refusal → Type 0
ErrorInItem version kind whole refusal = ErrorBefore version kind whole refusal
    ⊎ Then (Before version kind) (λ bytes. NoValue version bytes refusal) whole

-- ---- all that is left

-- this many items, and then what else is left
abbrev pub AreItems : Version → ItemKind → (List ℕ → Type 0) → ℕ → List ℕ → Type 0
AreItems version kind Rest zero = Rest
AreItems version kind Rest (suc number) = Then (IsItem version kind) (AreItems version kind Rest number)

abbrev pub ErrorInItems : Version → ItemKind → (List ℕ → Refusal → Type 0) → ℕ → List ℕ → Refusal → Type 0
ErrorInItems version kind ErrorInRest zero whole refusal = ErrorInRest whole refusal
ErrorInItems version kind ErrorInRest (suc number) whole refusal = ErrorInItem version kind whole refusal
    ⊎ Then (IsItem version kind) (λ bytes. ErrorInItems version kind ErrorInRest number bytes refusal) whole

abbrev pub AreLeft : Version → List ItemsLeft → List ℕ → Type 0
AreLeft version [] whole = whole ≡ []
AreLeft version (items ∷ outer) whole = AreItems version items.kind (AreLeft version outer) items.left whole

abbrev pub ErrorInLeft : Version → List ItemsLeft → List ℕ → Refusal → Type 0
ErrorInLeft version [] whole refusal = ⊥
ErrorInLeft version (items ∷ outer) whole refusal =
    ErrorInItems version items.kind (ErrorInLeft version outer) items.left whole refusal

-- The bytes begin with this many items, and this is after them.
abbrev pub BeginsItems : Version → ItemKind → ℕ → List ℕ → List ℕ → Type 0
BeginsItems version kind number whole rest = Begins
    (AreItems version kind (λ bytes. bytes ≡ []) number) whole rest

-- What was left is the bytes that were taken, and what is left now.
pub record Passed (version : Version) (old new : List ItemsLeft) (taken : List ℕ) : Type 0 where
  pub joins : (rest : List ℕ) → AreLeft version new rest → AreLeft version old (taken ++ rest)
  pub refuses : (rest : List ℕ) (refusal : Refusal) → ErrorInLeft version new rest refusal
      → ErrorInLeft version old (taken ++ rest) refusal

-- the list whose items come next, and the lists around it, the innermost last
abbrev pub open_items : ItemsLeft → Vec ItemsLeft Global → List ItemsLeft
open_items items outer = items ∷ reverse outer.items

-- One item is taken off all that is left, if there is one.
abbrev pub TakesItem : List ItemsLeft → ItemsLeft → Vec ItemsLeft Global → Bool → Type 0
TakesItem old items outer true = (version : Version)
    → Passed version old (record { kind = items.kind; left = suc items.left } ∷ reverse outer.items) []
TakesItem old items outer false = (version : Version) → Passed version old [] []
