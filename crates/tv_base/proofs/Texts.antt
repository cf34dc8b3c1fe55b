-- Bytes after their length, texts and signed numbers have one reading.
use Rattle.std.proofs.Common.{◌≡◌, ℕ, List, [], ◌∷◌, ◌++◌, length, refl, sym, ◌∙◌, ap, arith, append_assoc}
use Rattle.std.specs.Prelude.{ℤ, FitsSigned}
use Rattle.std.specs.Int.{w64, cast_unsigned, cast_signed}
use Rattle.std.proofs.lemmas.Int.{to_z-of_z}
use Rattle.std.proofs.lemmas.List.{append_cancel_left}
use Rattle.tv_base.specs.Number.{Signed}
use Rattle.tv_base.specs.Parts.{OneReading, Sized, Text}
use Rattle.tv_base.proofs.Agreement.{Agree, one_from}
use Rattle.tv_base.proofs.Numbers.{agree_number, agree_fixed}

-- two prefixes of one list that are equally long are one
pub same_prefix : (a b x y : List ℕ) → length a ≡ length b → a ++ x ≡ b ++ y → a ≡ b
same_prefix [] [] x y l e = refl
same_prefix (m ∷ a) (n ∷ b) x y l e =
    let head : m ≡ n = cc in
    let left : a ++ x ≡ b ++ y = cc in
    let tail = same_prefix a b x y (omega arith) left in
    λ i. head i ∷ tail i
same_prefix [] (n ∷ b) x y l e = absurd (omega arith)
same_prefix (m ∷ a) [] x y l e = absurd (omega arith)

pub agree_sized : (s t : List ℕ) → Agree (λ b. Sized b s) (λ b. Sized b t) (s ≡ t)
agree_sized s t = record {
  agree = λ a b x y p q e.
      let whole : p.size ++ (s ++ x) ≡ q.size ++ (t ++ y) =
      sym (append_assoc p.size s x) ∙ ap (λ z. z ++ x) (sym p.joined) ∙ e ∙ ap (λ z. z ++ y) q.joined ∙ append_assoc q.size t y in
      let size = (agree_number (length s) (length t)).agree p.size q.size (s ++ x) (t ++ y) p.number q.number whole in
      let left : q.size ++ (s ++ x) ≡ q.size ++ (t ++ y) = ap (λ z. z ++ (s ++ x)) (sym size.0) ∙ whole in
      let content = same_prefix s t x y size.1 (append_cancel_left q.size _ _ left) in
      (p.joined ∙ (λ i. size.0 i ++ content i) ∙ sym q.joined, content);
}

pub agree_text : (s t : List ℕ) → Agree (λ b. Text b s) (λ b. Text b t) (s ≡ t)
agree_text s t = record { agree = λ a b x y p q e. (agree_sized s t).agree a b x y p.sized q.sized e }

pub one_text : OneReading Text
one_text = one_from Text agree_text

pub same_signed : (s t : ℤ) → FitsSigned w64 s → FitsSigned w64 t → cast_unsigned w64 s ≡ cast_unsigned w64 t → s ≡ t
same_signed s t f g e = sym (to_z-of_z w64 s f) ∙ ap (cast_signed w64) e ∙ to_z-of_z w64 t g

pub agree_signed : (s t : ℤ) → Agree (λ b. Signed b s) (λ b. Signed b t) (s ≡ t)
agree_signed s t = record {
  agree = λ a b x y p q e.
      let r = (agree_fixed 8 (cast_unsigned w64 s) (cast_unsigned w64 t)).agree a b x y p.encoded q.encoded e in
      (r.0, same_signed s t p.fits q.fits r.1);
}

pub one_signed : OneReading Signed
one_signed = one_from Signed agree_signed

pub one_sized : OneReading Sized
one_sized = one_from Sized agree_sized
