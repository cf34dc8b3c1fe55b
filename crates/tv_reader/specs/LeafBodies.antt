-- What stands after the code of a value that holds no others, and what is wrong with bytes that are none.
use Rattle.std.specs.Prelude.{◌≡◌, ℕ, List, [], Option, Some, None}
use Rattle.tv_base.specs.declared.cause.Cause.{Cause}
use Rattle.tv_base.specs.declared.cause.Cause.TheVariants.{LegacyJson}
use Rattle.tv_base.specs.Number.{Fixed, Truth}
use Rattle.tv_base.specs.Parts.{Sized, Text}
use Rattle.tv_format.specs.Content.{no_content, truth_content, unsigned_content, signed_content, wide_content}
use Rattle.tv_format.specs.Content.{text_content, bytes_content, tokens_content}
use Rattle.tv_format.specs.InputError.{ErrorInContent, ErrorInTokenized}
use Rattle.tv_format.specs.Leaves.{form, scale}
use Rattle.tv_format.specs.Encoding.{Tokenized}
use Rattle.tv_format.specs.Tree.{Token, Tree, leaf}
use Rattle.tv_format.specs.Version.{Version, Scaled}
use Rattle.tv_format.specs.declared.leaf_type.Form.{Form}
use Rattle.tv_format.specs.declared.leaf_type.Form.TheVariants as forms
use Rattle.tv_format.specs.declared.leaf_type.LeafType.{LeafType}
use Rattle.tv_reader.specs.Leaves.{leaf_holding}
use Rattle.tv_reader.specs.ValueType.{leaf_type}
use Rattle.tv_reader.specs.declared.value_type.ValueType.{ValueType}

-- the bytes encode something of which the tree is made
abbrev pub MadeOf : {A : Type 0} → (List ℕ → A → Type 0) → (A → Tree) → List ℕ → Tree → Type 0
MadeOf {A} R make whole t = (x : A) × R whole x × (t ≡ make x)

-- a text and its tokens
abbrev pub TokenizedPair : List ℕ → List ℕ × List Token → Type 0
TokenizedPair whole pair = Tokenized whole pair.0 pair.1

-- what a leaf of a type holds, by its form
abbrev pub HoldsByForm : Version → LeafType → Form → List ℕ → Tree → Type 0
HoldsByForm version t forms.Nothing = λ whole tree. (whole ≡ []) × (tree ≡ leaf (leaf_holding t no_content))
HoldsByForm version t forms.Truth = MadeOf Truth (λ x. leaf (leaf_holding t (truth_content x)))
HoldsByForm version t forms.Unsigned = MadeOf (Fixed 8) (λ x. leaf (leaf_holding t (unsigned_content x)))
HoldsByForm version t forms.Signed = MadeOf (Scaled (scale version t))
    (λ x. leaf (leaf_holding t (signed_content x)))
HoldsByForm version t forms.Wide = MadeOf (Fixed 16) (λ x. leaf (leaf_holding t (wide_content x)))
HoldsByForm version t forms.Text = MadeOf Text (λ x. leaf (leaf_holding t (text_content x)))
HoldsByForm version t forms.Bytes = MadeOf Sized (λ x. leaf (leaf_holding t (bytes_content x)))
HoldsByForm version t forms.Tokens = MadeOf TokenizedPair
    (λ x. leaf (leaf_holding t (tokens_content x.0 x.1)))

abbrev pub LeafOfType : Version → Option LeafType → List ℕ → Tree → Type 0
LeafOfType version (Some t) = HoldsByForm version t (form t)
LeafOfType version None = λ whole t. ⊥

abbrev pub LeafOf : Version → ValueType → List ℕ → Tree → Type 0
LeafOf version kind = LeafOfType version (leaf_type kind)

-- the same of what is none; both codes of a text with its tokens were read
abbrev pub ErrorInHeld : Version → LeafType → Form → List ℕ → Cause → Type 0
ErrorInHeld version t forms.Tokens = ErrorInTokenized
ErrorInHeld version t f = ErrorInContent (scale version t) f

abbrev pub ErrorInLeafOfType : Version → Option LeafType → List ℕ → Cause → Type 0
ErrorInLeafOfType version (Some t) = ErrorInHeld version t (form t)
ErrorInLeafOfType version None = λ whole c. c ≡ LegacyJson

abbrev pub ErrorInLeafOf : Version → ValueType → List ℕ → Cause → Type 0
ErrorInLeafOf version kind = ErrorInLeafOfType version (leaf_type kind)
