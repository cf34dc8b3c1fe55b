-- Reading a value that holds no others from left to right, after its code.
use Rattle.std.specs.Prelude.{ℕ, ℤ, pos, negsuc, ◌*ℤ◌, Bool, List, Option, Some, None, is_some, Result, Ok}
use Rattle.std.specs.Prelude.{Err, if◌then◌else◌}
use Rattle.std.specs.Int.Signed.{lt_z}
use Rattle.tv_base.specs.declared.cause.Cause.{Cause}
use Rattle.tv_base.specs.declared.cause.Cause.TheVariants.{DateRange, LegacyJson}
use Rattle.tv_base.specs.Reading.{u64_at, u128_at, i64_at, truth_at, vint_at, sized_at, text_at, each_at}
use Rattle.tv_base.specs.Stop.{◌>>=◌}
use Rattle.tv_format.specs.Content.{Content, no_content, truth_content, unsigned_content, signed_content}
use Rattle.tv_format.specs.Content.{wide_content, text_content, bytes_content, tokens_content}
use Rattle.tv_format.specs.Leaves.{leaf_with, form}
use Rattle.tv_format.specs.Tree.{Token, Leaf, null, Tree, leaf, array, object}
use Rattle.tv_format.specs.Version.{Version, V1, V2, V3}
use Rattle.tv_format.specs.declared.leaf_type.Form.{Form}
use Rattle.tv_format.specs.declared.leaf_type.Form.TheVariants as forms
use Rattle.tv_format.specs.declared.leaf_type.LeafType.{LeafType}
use Rattle.tv_format.specs.declared.leaf_type.LeafType.TheVariants as leaves
use Rattle.tv_reader.specs.ValueType.{leaf_type}
use Rattle.tv_reader.specs.declared.value_type.ValueType.{ValueType}

-- ---- dates

-- microseconds, where their nanoseconds fit 64 bits
abbrev pub micros_of : ℤ → List ℕ → Result (ℤ × List ℕ) (Cause × List ℕ)
micros_of z rest = if lt_z z (negsuc 9223372036854774) then Err (DateRange, rest)
    else (if lt_z (pos 9223372036854775) z then Err (DateRange, rest) else Ok (z *ℤ pos 1000, rest))

abbrev pub date_of : Version → ℤ → List ℕ → Result (ℤ × List ℕ) (Cause × List ℕ)
date_of V1 z rest = micros_of z rest
date_of V2 z rest = Ok (z, rest)
date_of V3 z rest = Ok (z, rest)

unfoldable pub date_at : Version → List ℕ → Result (ℤ × List ℕ) (Cause × List ℕ)
date_at version whole = do
  number ← i64_at whole
  date_of version number.0 number.1

-- ---- texts with their tokens

-- five parts, one after the other
unfoldable pub token_at : List ℕ → Result (Token × List ℕ) (Cause × List ℕ)
token_at whole = do
  from ← vint_at whole
  to ← vint_at from.1
  position ← vint_at to.1
  content ← text_at position.1
  positions ← vint_at content.1
  Ok (
    record {
      offset_from = from.0;
      offset_to = to.0;
      position = position.0;
      text = content.0;
      position_length = positions.0;
    },
    positions.1,
  )

-- this many tokens
abbrev pub tokens_at : ℕ → List ℕ → Result (List Token × List ℕ) (Cause × List ℕ)
tokens_at n whole = each_at token_at n whole

-- their number, and each
unfoldable pub counted_tokens_at : List ℕ → Result (List Token × List ℕ) (Cause × List ℕ)
counted_tokens_at whole = do
  number ← vint_at whole
  tokens_at number.0 number.1

unfoldable pub tokenized_at : List ℕ → Result ((List ℕ × List Token) × List ℕ) (Cause × List ℕ)
tokenized_at whole = do
  content ← text_at whole
  tokens ← counted_tokens_at content.1
  Ok ((content.0, tokens.0), tokens.1)

-- ---- leaves

-- whether values of a type hold no others, and are read
abbrev pub is_leaf_type : ValueType → Bool
is_leaf_type kind = is_some (leaf_type kind)

-- a tree that holds no others
abbrev pub IsSingle : Tree → Type 0
IsSingle (leaf l) = Unit {0}
IsSingle (array ts) = ⊥
IsSingle (object es) = ⊥

abbrev pub or_null : Option Leaf → Leaf
or_null (Some l) = l
or_null None = null

-- the leaf of a type that holds this; a content of another form than the type's makes none
abbrev pub leaf_holding : LeafType → Content → Leaf
leaf_holding t held = or_null (leaf_with t held)

-- a signed number: a date's counts microseconds in version 1
abbrev pub number_at : Version → LeafType → List ℕ → Result (ℤ × List ℕ) (Cause × List ℕ)
number_at version leaves.Date whole = date_at version whole
number_at version _ whole = i64_at whole

-- what a leaf holds, after its codes
abbrev pub content_at : Version → LeafType → Form → List ℕ → Result (Tree × List ℕ) (Cause × List ℕ)
content_at version t forms.Nothing whole = Ok (leaf (leaf_holding t no_content), whole)
content_at version t forms.Truth whole = truth_at whole >>= λ x.
    Ok (leaf (leaf_holding t (truth_content x.0)), x.1)
content_at version t forms.Unsigned whole = u64_at whole >>= λ x.
    Ok (leaf (leaf_holding t (unsigned_content x.0)), x.1)
content_at version t forms.Signed whole = number_at version t whole >>= λ x.
    Ok (leaf (leaf_holding t (signed_content x.0)), x.1)
content_at version t forms.Wide whole = u128_at whole >>= λ x. Ok (
  leaf (leaf_holding t (wide_content x.0)),
  x.1,
)
content_at version t forms.Text whole = text_at whole >>= λ x. Ok (
  leaf (leaf_holding t (text_content x.0)),
  x.1,
)
content_at version t forms.Bytes whole = sized_at whole >>= λ x.
    Ok (leaf (leaf_holding t (bytes_content x.0)), x.1)
content_at version t forms.Tokens whole = tokenized_at whole >>= λ x.
    Ok (leaf (leaf_holding t (tokens_content x.0.0 x.0.1)), x.1)

-- What doesn't hold for a leaf is never asked of it.
abbrev pub leaf_of_type : Version → Option LeafType → List ℕ → Result (Tree × List ℕ) (Cause × List ℕ)
leaf_of_type version (Some t) whole = content_at version t (form t) whole
leaf_of_type version None whole = Err (LegacyJson, whole)

-- the value whose type was read
unfoldable pub leaf_at : Version → ValueType → List ℕ → Result (Tree × List ℕ) (Cause × List ℕ)
leaf_at version kind whole = leaf_of_type version (leaf_type kind) whole
