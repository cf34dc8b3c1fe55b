-- Whether the bytes of a child are a text.
use Rattle.std.proofs.Common.{◌≡◌, ℕ, true, false, List}
use Rattle.std.specs.Str.{is_utf8, IsUtf8}
use Rattle.std.proofs.lemmas.Bool.{false_from_ne_true}
use Rattle.std.proofs.lemmas.Str.{IsUtf8-from_is_utf8, is_utf8-from_IsUtf8}

pub is-text : (bytes : List ℕ) → IsUtf8 bytes → is_utf8 bytes ≡ true
is-text bytes h = is_utf8-from_IsUtf8 bytes h

pub no-text : (bytes : List ℕ) → (IsUtf8 bytes → ⊥) → is_utf8 bytes ≡ false
no-text bytes h = false_from_ne_true (is_utf8 bytes) (λ e. h (IsUtf8-from_is_utf8 bytes e))
