-- Reading from left to right: a value and the bytes after it, or the first error that is met and the bytes
-- after those that show it.
use Rattle.std.specs.Prelude.{ℕ, ℤ, ◌+◌, ◌*◌, ◌%◌, ◌==◌, Bool, zero, suc, List, [], ◌∷◌, ◌++◌, length, take}
use Rattle.std.specs.Prelude.{drop, Result, Ok, Err, nat_lt, if◌then◌else◌}
use Rattle.std.specs.Int.{Width, w32, w64, w128, byte_len, from_le_bytes, cast_signed}
use Rattle.std.specs.Str.{is_utf8}
use Rattle.tv_base.specs.Stop.{◌>>=◌}
use Rattle.tv_base.specs.declared.cause.Cause.{Cause}
use Rattle.tv_base.specs.declared.cause.Cause.TheVariants.{UnexpectedEnd, BadNumber, BadBool, NotUtf8}

-- the next n bytes
unfoldable pub bytes_at : ℕ → List ℕ → Result (List ℕ × List ℕ) (Cause × List ℕ)
bytes_at n bytes = if nat_lt (length bytes) n then Err (UnexpectedEnd, [])
    else Ok (take n bytes, drop n bytes)

-- the next n bytes, after those that are there
abbrev pub more_at : List ℕ → ℕ → List ℕ → Result (List ℕ × List ℕ) (Cause × List ℕ)
more_at prefix n bytes = bytes_at n bytes >>= λ x. Ok (prefix ++ x.0, x.1)

-- ---- numbers of a fixed width

unfoldable pub u8_at : List ℕ → Result (ℕ × List ℕ) (Cause × List ℕ)
u8_at [] = Err (UnexpectedEnd, [])
u8_at (byte ∷ rest) = Ok (byte, rest)

unfoldable pub number_at : Width → List ℕ → Result (ℕ × List ℕ) (Cause × List ℕ)
number_at w bytes = do
  number ← bytes_at (byte_len w) bytes
  Ok (from_le_bytes w number.0, number.1)

abbrev pub u32_at : List ℕ → Result (ℕ × List ℕ) (Cause × List ℕ)
u32_at bytes = number_at w32 bytes

abbrev pub u64_at : List ℕ → Result (ℕ × List ℕ) (Cause × List ℕ)
u64_at bytes = number_at w64 bytes

abbrev pub u128_at : List ℕ → Result (ℕ × List ℕ) (Cause × List ℕ)
u128_at bytes = number_at w128 bytes

unfoldable pub i64_at : List ℕ → Result (ℤ × List ℕ) (Cause × List ℕ)
i64_at bytes = do
  number ← u64_at bytes
  Ok (cast_signed w64 number.0, number.1)

-- ---- truth values

-- one byte, 0 or 1
unfoldable pub truth_at : List ℕ → Result (Bool × List ℕ) (Cause × List ℕ)
truth_at bytes = do
  byte ← u8_at bytes
  if nat_lt 1 byte.0 then Err (BadBool, byte.1) else Ok (byte.0 == 1, byte.1)

-- ---- numbers of variable length

-- the last of ten groups has one bit
unfoldable pub last_group : ℕ → List ℕ → Result (ℕ × List ℕ) (Cause × List ℕ)
last_group byte rest = if nat_lt byte 128 then Err (BadNumber, rest) else if nat_lt 1 (byte % 128)
    then Err (BadNumber, rest) else Ok (byte % 128, rest)

-- a number of which n groups may come before the last
unfoldable pub groups_at : ℕ → List ℕ → Result (ℕ × List ℕ) (Cause × List ℕ)
groups_at zero bytes = do
  last ← u8_at bytes
  last_group last.0 last.1
groups_at (suc n) bytes = do
  first ← u8_at bytes
  if nat_lt first.0 128 then (groups_at n first.1 >>= λ high. Ok (first.0 % 128 + 128 * high.0, high.1))
      else Ok (first.0 % 128, first.1)

abbrev pub vint_at : List ℕ → Result (ℕ × List ℕ) (Cause × List ℕ)
vint_at bytes = groups_at 9 bytes

-- ---- texts

-- bytes after their length
unfoldable pub sized_at : List ℕ → Result (List ℕ × List ℕ) (Cause × List ℕ)
sized_at bytes = do
  len ← vint_at bytes
  bytes_at len.0 len.1

-- the same, where the bytes are UTF-8
unfoldable pub text_at : List ℕ → Result (List ℕ × List ℕ) (Cause × List ℕ)
text_at bytes = do
  content ← sized_at bytes
  if is_utf8 content.0 then Ok content else Err (NotUtf8, content.1)

-- ---- items

-- this many items, one after the other
unfoldable pub each_at : {F Y : Type 0} → (List ℕ → Result (Y × List ℕ) (F × List ℕ)) → ℕ → List ℕ
    → Result (List Y × List ℕ) (F × List ℕ)
each_at item zero bytes = Ok ([], bytes)
each_at item (suc n) bytes = do
  first ← item bytes
  others ← each_at item n first.1
  Ok (first.0 ∷ others.0, others.1)
