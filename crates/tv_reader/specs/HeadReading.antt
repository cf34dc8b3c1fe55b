-- Reading the head of a value from left to right, and a key.
use Rattle.std.specs.Prelude.{ℕ, List, Option, Some, None, Result, Ok, Err}
use Rattle.tv_base.specs.declared.cause.Cause.{Cause}
use Rattle.tv_base.specs.Reading.{u64_at, u128_at, truth_at, vint_at}
use Rattle.tv_base.specs.Stop.{◌>>=◌, lifted}
use Rattle.tv_format.specs.Content.{no_content, truth_content, unsigned_content, signed_content, wide_content}
use Rattle.tv_format.specs.InputError.{Refusal, corrupted, no_text_key}
use Rattle.tv_format.specs.Leaves.{form}
use Rattle.tv_value.specs.Lent.{leaf_of}
use Rattle.tv_format.specs.Version.{Version, V1, V2, V3}
use Rattle.tv_format.specs.declared.leaf_type.Form.{Form}
use Rattle.tv_format.specs.declared.leaf_type.Form.TheVariants as forms
use Rattle.tv_format.specs.declared.leaf_type.LeafType.{LeafType}
use Rattle.tv_reader.specs.Counts.{entry_count_at}
use Rattle.tv_reader.specs.Heads.{HeadPart, leaf_head, length_head, array_head, object_head, tokenized_head}
use Rattle.tv_reader.specs.Heads.{legacy_head}
use Rattle.tv_reader.specs.Kinds.{kind_at}
use Rattle.tv_reader.specs.Leaves.{leaf_holding, number_at}
use Rattle.tv_reader.specs.ValueType.{leaf_type, value_type_code}
use Rattle.tv_reader.specs.declared.heads.Head.{Head}
use Rattle.tv_reader.specs.declared.heads.Head.TheVariants as heads
use Rattle.tv_reader.specs.declared.value_type.ValueType.{ValueType}
use Rattle.tv_reader.specs.declared.value_type.ValueType.TheVariants as types

abbrev pub head_part : Head → HeadPart
head_part (heads.Leaf l) = leaf_head (leaf_of l)
head_part (heads.Length t n) = length_head t n
head_part (heads.Array n) = array_head n
head_part (heads.Object n) = object_head n
head_part heads.Tokenized = tokenized_head
head_part heads.Legacy = legacy_head

-- the head of a leaf, by the form of what it holds
abbrev pub form_head_at : Version → LeafType → Form → List ℕ → Result (HeadPart × List ℕ) (Cause × List ℕ)
form_head_at version t forms.Nothing whole = Ok (leaf_head (leaf_holding t no_content), whole)
form_head_at version t forms.Truth whole = truth_at whole >>= λ x.
    Ok (leaf_head (leaf_holding t (truth_content x.0)), x.1)
form_head_at version t forms.Unsigned whole = u64_at whole >>= λ x.
    Ok (leaf_head (leaf_holding t (unsigned_content x.0)), x.1)
form_head_at version t forms.Signed whole = number_at version t whole >>= λ x.
    Ok (leaf_head (leaf_holding t (signed_content x.0)), x.1)
form_head_at version t forms.Wide whole = u128_at whole >>= λ x.
    Ok (leaf_head (leaf_holding t (wide_content x.0)), x.1)
form_head_at version t forms.Text whole = vint_at whole >>= λ x. Ok (length_head t x.0, x.1)
form_head_at version t forms.Bytes whole = vint_at whole >>= λ x. Ok (length_head t x.0, x.1)
form_head_at version t forms.Tokens whole = Ok (tokenized_head, whole)

abbrev pub type_head_at : Version → Option LeafType → List ℕ → Result (HeadPart × List ℕ) (Cause × List ℕ)
type_head_at version (Some t) whole = form_head_at version t (form t) whole
type_head_at version None whole = Ok (legacy_head, whole)

-- the head of a value whose type was read
unfoldable pub head_at : Version → ValueType → List ℕ → Result (HeadPart × List ℕ) (Cause × List ℕ)
head_at version types.Array whole = vint_at whole >>= λ x. Ok (array_head x.0, x.1)
head_at version types.Object whole = entry_count_at version whole >>= λ x. Ok (object_head x.0, x.1)
head_at version kind whole = type_head_at version (leaf_type kind) whole

-- the type of a value, and then its head
unfoldable pub value_head_at : Version → List ℕ → Result (HeadPart × List ℕ) (Refusal × List ℕ)
value_head_at version whole = do
  kind ← lifted corrupted (kind_at whole)
  lifted corrupted (head_at version kind.0 kind.1)

-- ---- keys

-- what is read of a text after its code; a value of another type is refused
abbrev pub text_by : {A : Type 0} → (List ℕ → Result (A × List ℕ) (Cause × List ℕ)) → ValueType → List ℕ
    → Result (A × List ℕ) (Refusal × List ℕ)
text_by reading types.String whole = lifted corrupted (reading whole)
text_by reading kind whole = Err (no_text_key (value_type_code kind), whole)

-- the same, with its code
unfoldable pub coded_text_by : {A : Type 0} → (List ℕ → Result (A × List ℕ) (Cause × List ℕ)) → List ℕ
    → Result (A × List ℕ) (Refusal × List ℕ)
coded_text_by reading whole = do
  kind ← lifted corrupted (kind_at whole)
  text_by reading kind.0 kind.1

-- what is read of a key, which has a code in versions 1 and 2
unfoldable pub key_by : {A : Type 0} → (List ℕ → Result (A × List ℕ) (Cause × List ℕ)) → Version → List ℕ
    → Result (A × List ℕ) (Refusal × List ℕ)
key_by reading V1 whole = coded_text_by reading whole
key_by reading V2 whole = coded_text_by reading whole
key_by reading V3 whole = lifted corrupted (reading whole)
