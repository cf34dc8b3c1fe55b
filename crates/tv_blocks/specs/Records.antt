-- Records: a number and the length of some bytes, and then the bytes.
use Rattle.std.specs.Prelude.{ℕ, List, ◌++◌, length}
use Rattle.std.specs.Int.{to_le_bytes, w64}

-- the number and the length of the bytes, both in eight bytes, the lowest first, and the bytes
abbrev pub record_of : ℕ → List ℕ → List ℕ
record_of number bytes = to_le_bytes w64 number ++ to_le_bytes w64 (length bytes) ++ bytes

-- the number of a document in eight bytes, the lowest first, and then the record
abbrev pub numbered_record : ℕ → ℕ → List ℕ → List ℕ
numbered_record document number bytes = to_le_bytes w64 document ++ record_of number bytes
