-- What a term becomes whose bytes are borrowed for writing.
use Rattle.std.specs.Prelude.{ℕ, List, ◌++◌, length, take, drop}
use Rattle.std.specs.Borrow.{Lends, MutBor, Fml, Array, u8}
use Rattle.tv_term.specs.contracts.term.Term.{the_row}

-- the bytes with others written over them from the first on; a slice keeps its length
abbrev pub overwritten : List ℕ → List ℕ → List ℕ
overwritten bytes written = take (length bytes) (written ++ drop (length written) bytes)

-- the term's bytes from this place on are borrowed
abbrev pub LendsFrom : MutBor (List ℕ) → ℕ → MutBor (List ℕ) → Fml
LendsFrom term start part =
    Lends the_row (Array u8 0) term part (λ written. take start term.now
    ++ overwritten (drop start term.now) written)
