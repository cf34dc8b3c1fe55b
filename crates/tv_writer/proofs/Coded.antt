-- A code, and then what stands after it.
use Rattle.std.proofs.Common.{◌≡◌, ℕ, List, [], ◌∷◌, ◌++◌, Result, Ok, Err, get_or, ap, ◌∙◌}
use Rattle.std.specs.Int.{w32, w64, to_le_bytes}
use Rattle.tv_base.specs.Number.{four_bytes, eight_bytes}
use Rattle.tv_base.proofs.Widths.{four_bytes_is, eight_bytes_is}
use Rattle.tv_base.specs.Source.{Failures}
use Rattle.tv_base.specs.Stop.{Stop}
use Rattle.tv_base.specs.Sink.{WritesBy}
use Rattle.tv_base.proofs.Written.{Writes_then, Writes_prefix}

-- the code was written, and then what is after it or a prefix of that
pub Coded_then : {S T U E D R Q : Type 0} {stop : E → Stop R} {first_stop : D → Stop Q} {is_known : S → Type 0} {held : S → List ℕ} {failures : S → Failures} {old mid new : S} {x : T} {result : Result U E} {code : ℕ} {body : List ℕ}
    → WritesBy first_stop is_known held failures old mid (Ok x) (Ok (code ∷ [])) → WritesBy stop is_known held failures mid new result (Ok body) → WritesBy stop is_known held failures old new result (Ok (code ∷ body))
Coded_then {code = code} {body = body} first second = Writes_then (code ∷ []) body first second

-- the code was not written
pub Coded_fails : {S T U E R : Type 0} {stop : E → Stop R} {is_known : S → Type 0} {held : S → List ℕ} {failures : S → Failures} {old new : S} {e : E} {code : ℕ} {body : List ℕ}
    → WritesBy {T = T} stop is_known held failures old new (Err e) (Ok (code ∷ [])) → WritesBy {T = U} stop is_known held failures old new (Err e) (Ok (code ∷ body))
Coded_fails {code = code} {body = body} first = Writes_prefix (code ∷ []) body first

-- the four and the eight bytes of a number, one by one
pub four_listed : (r : List ℕ) (n : ℕ) (rest : List ℕ) → r ≡ to_le_bytes w32 n → get_or r 0 0 ∷ get_or r 1 0 ∷ get_or r 2 0 ∷ get_or r 3 0 ∷ rest ≡ four_bytes n ++ rest
four_listed r n rest e = ap (λ z. get_or z 0 0 ∷ get_or z 1 0 ∷ get_or z 2 0 ∷ get_or z 3 0 ∷ rest) e ∙ ap (λ z. z ++ rest) (four_bytes_is n)

pub eight_listed : (r : List ℕ) (n : ℕ) → r ≡ to_le_bytes w64 n
    → get_or r 0 0 ∷ get_or r 1 0 ∷ get_or r 2 0 ∷ get_or r 3 0 ∷ get_or r 4 0 ∷ get_or r 5 0 ∷ get_or r 6 0 ∷ get_or r 7 0 ∷ [] ≡ eight_bytes n
eight_listed r n e = ap (λ z. get_or z 0 0 ∷ get_or z 1 0 ∷ get_or z 2 0 ∷ get_or z 3 0 ∷ get_or z 4 0 ∷ get_or z 5 0 ∷ get_or z 6 0 ∷ get_or z 7 0 ∷ []) e ∙ eight_bytes_is n
