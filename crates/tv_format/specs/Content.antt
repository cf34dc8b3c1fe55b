-- What a leaf holds, whatever its type is.
use Rattle.std.specs.Prelude.{ℕ, ℤ, Bool, List}
use Rattle.tv_format.specs.Tree.{Token}
use Rattle.tv_format.specs.declared.leaf_type.Form.{Form}
use Rattle.tv_format.specs.declared.leaf_type.Form.TheVariants as forms

pub data Content : Type 0 where
  no_content : Content
  truth_content : Bool → Content
  -- in eight bytes
  unsigned_content : ℕ → Content
  signed_content : ℤ → Content
  -- in sixteen bytes
  wide_content : ℕ → Content
  text_content : List ℕ → Content
  bytes_content : List ℕ → Content
  tokens_content : List ℕ → List Token → Content

abbrev pub form_of : Content → Form
form_of no_content = forms.Nothing
form_of (truth_content b) = forms.Truth
form_of (unsigned_content n) = forms.Unsigned
form_of (signed_content z) = forms.Signed
form_of (wide_content n) = forms.Wide
form_of (text_content t) = forms.Text
form_of (bytes_content bs) = forms.Bytes
form_of (tokens_content t ts) = forms.Tokens
