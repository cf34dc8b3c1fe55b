-- Bytes after their length, texts and items agree with their grammar.
use Rattle.std.proofs.Common.{◌≡◌, ◌⊎◌, ℕ, zero, suc, true, false, List, [], ◌∷◌, ◌++◌, length, Result, refl, sym, ap, subst, ◌∙◌, arith, inl, inr}
use Rattle.std.proofs.lemmas.List.{append-nil}
use Rattle.std.specs.Str.{is_utf8}
use Rattle.std.proofs.lemmas.Str.{is_utf8-from_IsUtf8, IsUtf8-from_is_utf8}
use Rattle.tv_base.specs.declared.cause.Cause.{Cause}
use Rattle.tv_base.specs.declared.cause.Cause.TheVariants.{UnexpectedEnd, NotUtf8}
use Rattle.tv_base.specs.Source.{AllBytes}
use Rattle.tv_base.specs.Stop.{◌>>=◌}
use Rattle.tv_base.specs.Number.{VNum}
use Rattle.tv_base.specs.Parts.{Sized, Text, Each}
use Rattle.tv_base.specs.ErrorInPart.{InThen, InEach, ErrorInSized, ErrorInText, in_sized, no_text}
use Rattle.tv_base.specs.Reading.{sized_at, text_at, each_at}
use Rattle.tv_base.proofs.Agrees.{Agrees, InTurn, agrees_too, in_turn, make, made, chosen, nothing_read, nothing_stands}
use Rattle.tv_base.proofs.AgreeWidths.{AreBytes, bytes_agree}
use Rattle.tv_base.proofs.AgreeNumbers.{vint_agrees}

-- ---- bytes after their length

sized_to : (bytes content : List ℕ) → AllBytes bytes → InTurn VNum AreBytes bytes content → Sized bytes content
sized_to bytes content small p =
    let there = p.1.second in
    let len : p.0 ≡ length content = sym there.0 ∙ ap length (sym there.1) in
    record { size = p.1.prefix; joined = p.1.joined ∙ ap (λ (l : List ℕ). p.1.prefix ++ l) (sym there.1); number = subst (VNum p.1.prefix) len p.1.first }

sized_from : (bytes content : List ℕ) → Sized bytes content → InTurn VNum AreBytes bytes content
sized_from bytes content h = (length content, record { prefix = h.size; rest = content; joined = h.joined; first = h.number; second = (refl, refl) })

pub sized_agrees : Agrees UnexpectedEnd sized_at Sized ErrorInSized
unfolding sized_at
sized_agrees = agrees_too (λ bytes. refl) sized_to sized_from (λ bytes c small h. h) (in_turn vint_agrees bytes_agree)

-- ---- texts

impossible : true ≡ false → ⊥
impossible e = absurd cc

abbrev Checked : List ℕ → List ℕ → List ℕ → Type 0
Checked content bytes text = ((is_utf8 content ≡ true) × ((bytes ≡ []) × (text ≡ content))) ⊎ ((is_utf8 content ≡ false) × ⊥)

abbrev ErrorInCheck : List ℕ → List ℕ → Cause → Type 0
ErrorInCheck content bytes c = ((is_utf8 content ≡ true) × ⊥) ⊎ ((is_utf8 content ≡ false) × (c ≡ NotUtf8))

text_to : (bytes text : List ℕ) → AllBytes bytes → InTurn Sized Checked bytes text → Text bytes text
text_to bytes text small p = elim p.1.second [
  | inl q ↦
      let whole : p.1.prefix ≡ bytes = sym (p.1.joined ∙ ap (λ (l : List ℕ). p.1.prefix ++ l) q.1.0 ∙ append-nil p.1.prefix) in
      let there : Text bytes p.0 = record { sized = subst (λ (l : List ℕ). Sized l p.0) whole p.1.first; utf8 = IsUtf8-from_is_utf8 _ q.0 } in
      subst (Text bytes) (sym q.1.1) there
  | inr q ↦ absurd q.1
]

text_from : (bytes text : List ℕ) → Text bytes text → InTurn Sized Checked bytes text
text_from bytes text h = (text, record { prefix = bytes; rest = []; joined = sym (append-nil bytes); first = h.sized; second = inl (is_utf8-from_IsUtf8 _ h.utf8, (refl, refl)) })

text_errors : (bytes : List ℕ) (c : Cause) → AllBytes bytes → InThen ErrorInSized Sized ErrorInCheck bytes c → ErrorInText bytes c
text_errors bytes c small p = elim p [
  | inl q ↦ in_sized q
  | inr q ↦ elim q.1.second [
    | inl r ↦ absurd r.1
    | inr r ↦ subst (ErrorInText bytes) (sym r.1) (no_text q.0 q.1.prefix q.1.rest q.1.joined q.1.first (λ u. impossible (sym (is_utf8-from_IsUtf8 _ u) ∙ r.0)))
  ]
]

pub text_agrees : Agrees UnexpectedEnd text_at Text ErrorInText
unfolding text_at
text_agrees = agrees_too (λ bytes. refl) text_to text_from text_errors
    (in_turn sized_agrees (λ content. chosen (is_utf8 content) (nothing_read UnexpectedEnd content) (nothing_stands NotUtf8 (λ e. cc))))

-- ---- this many items

abbrev AreEach : {Y : Type 0} → (List ℕ → Y → Type 0) → ℕ → List ℕ → List Y → Type 0
AreEach A n bytes ys = (length ys ≡ n) × Each A bytes ys

abbrev FirstOf : {Y : Type 0} → (List ℕ → Y → Type 0) → ℕ → Y → List ℕ → List Y → Type 0
FirstOf {Y} A n y bytes ys = (rest : List Y) × AreEach A n bytes rest × (ys ≡ y ∷ rest)

none_to : {Y : Type 0} (A : List ℕ → Y → Type 0) (bytes : List ℕ) (ys : List Y) → (bytes ≡ []) × (ys ≡ []) → AreEach A 0 bytes ys
none_to A bytes ys p = subst (AreEach A 0 bytes) (sym p.1) (refl, p.0)

none_from : {Y : Type 0} (A : List ℕ → Y → Type 0) (bytes : List ℕ) (ys : List Y) → AreEach A 0 bytes ys → (bytes ≡ []) × (ys ≡ [])
none_from A bytes [] p = (p.1, refl)
none_from A bytes (y ∷ ys) p = absurd (omega (arith, p.0))

each_to : {Y : Type 0} (A : List ℕ → Y → Type 0) (n : ℕ) (bytes : List ℕ) (ys : List Y) → InTurn A (FirstOf A n) bytes ys → AreEach A (suc n) bytes ys
each_to A n bytes ys p =
    let q = p.1.second in
    subst (AreEach A (suc n) bytes) (sym q.2) (ap suc q.1.0, record { prefix = p.1.prefix; rest = p.1.rest; joined = p.1.joined; first = p.1.first; second = q.1.1 })

each_from : {Y : Type 0} (A : List ℕ → Y → Type 0) (n : ℕ) (bytes : List ℕ) (ys : List Y) → AreEach A (suc n) bytes ys → InTurn A (FirstOf A n) bytes ys
each_from A n bytes [] p = absurd (omega (arith, p.0))
each_from A n bytes (y ∷ ys) p = (y, record { prefix = p.1.prefix; rest = p.1.rest; joined = p.1.joined; first = p.1.first; second = (ys, (omega (arith, p.0), p.1.second), refl) })

pub each_agrees : {F Y : Type 0} {end : F} {a : List ℕ → Result (Y × List ℕ) (F × List ℕ)} {A : List ℕ → Y → Type 0} {FA : List ℕ → F → Type 0}
    → Agrees end a A FA → (n : ℕ) → Agrees end (each_at a n) (λ bytes ys. (length ys ≡ n) × Each A bytes ys) (InEach FA A n)
unfolding each_at
each_agrees {end = end} {A = A} item zero = agrees_too (λ bytes. refl) (λ bytes ys small p. none_to A bytes ys p) (none_from A) (λ bytes c small h. h) (nothing_read end [])
each_agrees {a = a} {A = A} item (suc n) = agrees_too (λ bytes. refl) (λ bytes ys small p. each_to A n bytes ys p) (each_from A n) (λ bytes c small h. h)
    (in_turn {b = λ y bytes. each_at a n bytes >>= make (λ ys. y ∷ ys)} item (λ y. made (λ ys. y ∷ ys) (each_agrees item n)))
