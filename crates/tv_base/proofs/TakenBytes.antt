-- A byte is read and taken.
use Rattle.std.proofs.Common.{◌≡◌, ℕ, ◌+◌, List, [], ◌∷◌, ◌++◌, Ok, Err, ap, refl, sym, ◌∙◌}
use Rattle.std.proofs.lemmas.List.{append_cancel_right}
use Rattle.tv_base.specs.declared.cause.Cause.TheVariants.{UnexpectedEnd}
use Rattle.tv_base.specs.Stop.{Taken}
use Rattle.tv_base.specs.Reading.{u8_at}

pub byte_read : {bytes rest : List ℕ} {byte : ℕ} (taken : List ℕ) → bytes ≡ byte ∷ rest → bytes ≡ taken ++ rest → (behind : List ℕ) → u8_at (taken ++ behind) ≡ Ok (byte, behind)
unfolding u8_at
byte_read {rest = rest} {byte = byte} taken e joined behind = ap (λ (l : List ℕ). u8_at (l ++ behind)) (append_cancel_right taken (byte ∷ []) rest (sym joined ∙ e))

-- none was taken
pub no_byte : {bytes : List ℕ} (taken : List ℕ) → bytes ≡ taken ++ bytes → u8_at taken ≡ Err (UnexpectedEnd, [])
unfolding u8_at
no_byte {bytes} taken joined = ap u8_at (append_cancel_right taken [] bytes (sym joined))

pub byte_taken : {bytes rest : List ℕ} {byte count : ℕ} → bytes ≡ byte ∷ rest → Taken bytes rest count (count + 1)
byte_taken {byte = byte} e = record { prefix = byte ∷ []; joined = e; counted = refl }
