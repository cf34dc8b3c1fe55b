-- Where bytes of a known number, bytes after their length or a text are malformed, no prefix encodes one.
use Rattle.std.proofs.Common.{◌≡◌, ℕ, List, [], ◌∷◌, ◌++◌, length, refl, sym, ◌∙◌, ap, subst, arith, length-append, IsUtf8}
use Rattle.tv_base.specs.declared.cause.Cause.{Cause}
use Rattle.tv_base.specs.Number.{VNum}
use Rattle.tv_base.specs.Parts.{Behind, Sized, Text}
use Rattle.tv_base.specs.ErrorInPart.{ErrorInNumber, ErrorInBytes, bytes_end, ErrorInSized, ErrorInText, in_sized, no_text}
use Rattle.tv_base.proofs.Numbers.{one_number}
use Rattle.tv_base.proofs.Texts.{agree_sized}
use Rattle.tv_base.proofs.Excluding.{Excludes, excludes_map, excludes_then, excludes_number}

pub excludes_bytes : (k : ℕ) (P : List ℕ → Type 0) → ((b : List ℕ) → P b → length b ≡ k) → Excludes (ErrorInBytes k) P
excludes_bytes k P len = record { excludes = λ whole a x c error p e. bytes_excludes whole a x c error (len a p) e }
  where
    bytes_excludes : (whole a x : List ℕ) (c : Cause) → ErrorInBytes k whole c → length a ≡ k → whole ≡ a ++ x → ⊥
    bytes_excludes whole a x c (bytes_end h) l e = omega (arith, ap length e, length-append a x)

pub excludes_sized : (content : List ℕ) → Excludes ErrorInSized (λ b. Sized b content)
excludes_sized content =
    excludes_map (λ b q. record { prefix = q.size; rest = content; joined = q.joined; first = q.number; second = refl })
    (excludes_then ErrorInNumber VNum ErrorInBytes {Q = λ b. b ≡ content} (length content) (excludes_number (length content)) one_number
    (excludes_bytes (length content) (λ b. b ≡ content) (λ b p. ap length p)))

pub excludes_text : (content : List ℕ) → Excludes ErrorInText (λ b. Text b content)
excludes_text content = record { excludes = text_excludes }
  where
    text_excludes : (whole a x : List ℕ) (c : Cause) → ErrorInText whole c → Text a content → whole ≡ a ++ x → ⊥
    text_excludes whole a x c (in_sized h) p e = (excludes_sized content).excludes whole a x c h p.sized e
    text_excludes whole a x c (no_text other prefix rest joined q none) p e =
        let same = (agree_sized other content).agree prefix a rest x q p.sized (sym joined ∙ e) in
        none (subst IsUtf8 (sym same.1) p.utf8)

-- what a code and a rest say of bytes after a code
pub behind_head : {P : List ℕ → Type 0} (c d : ℕ) (rest a x : List ℕ) → (p : Behind d P a) → c ∷ rest ≡ a ++ x → (c ≡ d) × (rest ≡ p.body ++ x)
behind_head c d rest a x p e =
    let f : c ∷ rest ≡ (d ∷ p.body) ++ x = e ∙ ap (λ z. z ++ x) p.joined in
    let code : c ≡ d = cc in
    let left : rest ≡ p.body ++ x = cc in
    (code, left)

pub behind_some : {P : List ℕ → Type 0} (d : ℕ) (whole a x : List ℕ) → whole ≡ [] → (p : Behind d P a) → whole ≡ a ++ x → ⊥
behind_some d whole a x n p e = let f : [] ≡ (d ∷ p.body) ++ x = sym n ∙ e ∙ ap (λ z. z ++ x) p.joined in cc
