-- A text and its tokens, which are gathered in their shortest encoding.
use Rattle.std.specs.Prelude.{List, ℕ, ◌++◌, String, string_bytes}
use Rattle.std.specs.declared.alloc.Global.{Global}
use Rattle.tv_format.specs.Encoding.{Encodes}
use Rattle.tv_format.specs.Tree.{Tree, leaf, tokenized}
use Rattle.tv_format.specs.Version.{Version}
use Rattle.tv_reader.specs.Legacy.{Legacy}
use Rattle.tv_reader.specs.ValueType.{type_prefix}
use Rattle.tv_reader.specs.declared.value_type.ValueType.TheVariants as types
use Rattle.tv_value.specs.EncodedTokens.{gathered}
use Rattle.tv_value.specs.declared.pre_tokenized.EncodedTokens.{EncodedTokens}

-- the value that they are
abbrev pub tokenized_tree : String Global × EncodedTokens → Tree
tokenized_tree x = leaf (tokenized (string_bytes x.0) (gathered x.1))

-- the bytes encode them, after the codes
abbrev pub EncodesTokenized : Version → List ℕ → String Global × EncodedTokens → Type 0
EncodesTokenized version b x = Encodes Legacy version (type_prefix types.PreTokStr ++ b) (tokenized_tree x)
