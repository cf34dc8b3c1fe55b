-- What clauses see of a buffer of bytes, and how its memory grows.
use Rattle.std.specs.Prelude.{◌≡◌, ℕ, ◌+◌, ◌*◌, ◌^◌, ◌<◌, ◌≤◌, List, ◌++◌, length, take, max, leb}
use Rattle.std.specs.Prelude.{if◌then◌else◌, refl, Result, Ok, Err}
use Rattle.std.specs.Coded.{Coded, code_by, coded×, coded_list, coded_ℕ}

-- The bytes of a buffer; how many more may be stored with no test; and how many more it takes with no request
-- for memory.
pub record Buffer : Type 0 where
  pub items : List ℕ
  pub ready : ℕ
  pub spare : ℕ

-- it is coded as the tuple of its fields
abbrev pub buffer_code : Coded Buffer
buffer_code =
    code_by (List ℕ × (ℕ × ℕ)) (coded× (coded_list coded_ℕ) (coded× coded_ℕ coded_ℕ))
    (λ b. (b.items, (b.ready, b.spare))) (λ p. record { items = p.0; ready = p.1.0; spare = p.1.1 })
    (λ _. refl)

-- for how many bytes there is memory
abbrev pub capacity : Buffer → ℕ
capacity b = length b.items + b.spare

-- The capacity after room was made for `need` bytes in all: as it was where that suffices; else the greatest
-- of what is needed, twice that, and 512.
abbrev pub grown : ℕ → ℕ → ℕ
grown old need = if leb need old then old else max (max need (2 * old)) 512

-- Room was made for `need` bytes in all, or it was missing and memory was refused, and then the capacity is
-- as it was.
abbrev pub Grows : {T E : Type 0} → Result T E → Buffer → Buffer → ℕ → Type 0
Grows (Ok x) old new need = capacity new ≡ grown (capacity old) need
Grows (Err e) old new need = (capacity new ≡ capacity old) × (capacity old < need)

-- These bytes are appended, where room for them was ready, and all are fewer than 2^63.
pub record Puts (old new : Buffer) (bytes : List ℕ) : Type 0 where
  pub items : new.items ≡ old.items ++ bytes
  pub ready : new.ready + length bytes ≡ old.ready
  pub spare : new.spare + length bytes ≡ old.spare
  pub small : length new.items < 2 ^ 63

-- These bytes are appended, and all are fewer than 2^63; or nothing is, as memory for them was missing and
-- was refused.
abbrev pub Extends : {T E : Type 0} → Result T E → Buffer → Buffer → List ℕ → Type 0
Extends (Ok x) old new bytes = (new.items ≡ old.items ++ bytes)
    × (capacity new ≡ grown (capacity old) (length old.items + length bytes)) × (length new.items < 2 ^ 63)
Extends (Err e) old new bytes = (new.items ≡ old.items) × (capacity new ≡ capacity old)
    × (capacity old < length old.items + length bytes)

-- Memory grew only where the capacity was below `most`, and then to twice that or to 512 at most: what writes
-- leave that keep within `most` bytes.
pub record GrowsWithin (most : ℕ) (old new : Buffer) : Type 0 where
  pub same : most ≤ capacity old → capacity new ≡ capacity old
  pub bound : capacity new ≤ max (capacity old) (max (2 * most) 512)

-- The bytes stand in a list from this place up to `end`, and what was before it is as it was.
pub record Stored (old new : List ℕ) (at : ℕ) (bytes : List ℕ) (end : ℕ) : Type 0 where
  pub filled : take end new ≡ take at old ++ bytes
  pub ends : end ≡ at + length bytes
  pub same_len : length new ≡ length old
