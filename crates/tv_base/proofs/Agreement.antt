-- Two kinds of bytes agree where none of one begins one of the other, but the same bytes, and then C holds.
use Rattle.std.proofs.Common.{◌≡◌, ℕ, List, [], ◌∷◌, ◌++◌, length, refl, sym, ◌∙◌, ap, arith, append_assoc, ◌⊎◌, inl, inr}
use Rattle.std.proofs.lemmas.List.{append_cancel_left}
use Rattle.tv_base.specs.Parts.{OneReading, Then, Behind, Each}

pub record Agree (P Q : List ℕ → Type 0) (C : Type 0) : Type 0 where
  pub agree : (a b x y : List ℕ) → P a → Q b → a ++ x ≡ b ++ y → (a ≡ b) × C

pub agree_from : {A : Type 0} {R : List ℕ → A → Type 0} → OneReading R → (m n : A) → Agree (λ b. R b m) (λ b. R b n) (m ≡ n)
agree_from r m n = record { agree = λ a b x y p q e. r a b x y m n p q e }

pub one_from : {A : Type 0} (R : List ℕ → A → Type 0) → ((m n : A) → Agree (λ b. R b m) (λ b. R b n) (m ≡ n)) → OneReading R
one_from R r a b x y m n p q e = (r m n).agree a b x y p q e

pub agree_map : {P Q : List ℕ → Type 0} {C D : Type 0} → (C → D) → Agree P Q C → Agree P Q D
agree_map f r = record { agree = λ a b x y p q e. let s = r.agree a b x y p q e in (s.0, f s.1) }

pub agree_empty : Agree (λ b. b ≡ []) (λ b. b ≡ []) (Unit {0})
agree_empty = record { agree = λ a b x y p q e. (p ∙ sym q, tt) }

-- one part after the other; the second may rest on what the first has shown
pub agree_then : {P Q P' Q' : List ℕ → Type 0} {C D : Type 0} → Agree P P' C → (C → Agree Q Q' D) → Agree (Then P Q) (Then P' Q') (C × D)
agree_then r s = record {
  agree = λ a b x y p q e.
      let whole : p.prefix ++ (p.rest ++ x) ≡ q.prefix ++ (q.rest ++ y) =
      sym (append_assoc p.prefix p.rest x) ∙ ap (λ z. z ++ x) (sym p.joined) ∙ e ∙ ap (λ z. z ++ y) q.joined ∙ append_assoc q.prefix q.rest y in
      let prefix = r.agree p.prefix q.prefix (p.rest ++ x) (q.rest ++ y) p.first q.first whole in
      let left : q.prefix ++ (p.rest ++ x) ≡ q.prefix ++ (q.rest ++ y) = ap (λ z. z ++ (p.rest ++ x)) (sym prefix.0) ∙ whole in
      let rest = (s prefix.1).agree p.rest q.rest x y p.second q.second (append_cancel_left q.prefix _ _ left) in
      (p.joined ∙ (λ i. prefix.0 i ++ rest.0 i) ∙ sym q.joined, (prefix.1, rest.1));
}

pub agree_behind : {c d : ℕ} {P Q : List ℕ → Type 0} {C : Type 0} → (c ≡ d → Agree P Q C) → Agree (Behind c P) (Behind d Q) C
agree_behind {c} {d} r = record {
  agree = λ a b x y p q e.
      let whole : (c ∷ p.body) ++ x ≡ (d ∷ q.body) ++ y = ap (λ z. z ++ x) (sym p.joined) ∙ e ∙ ap (λ z. z ++ y) q.joined in
      let code : c ≡ d = cc in
      let left : p.body ++ x ≡ q.body ++ y = cc in
      let body = (r code).agree p.body q.body x y p.encoded q.encoded left in
      (p.joined ∙ (λ i. code i ∷ body.0 i) ∙ sym q.joined, body.1);
}

-- the same two lists, where either side has two forms
pub agree_left : {P P' Q : List ℕ → Type 0} {C : Type 0} → Agree P Q C → Agree P' Q C → Agree (λ b. P b ⊎ P' b) Q C
agree_left {P} {P'} {Q} {C} r s = record { agree = λ a b x y p q e. (elim p as (λ _. (a ≡ b) × C) [ inl h ↦ r.agree a b x y h q e | inr h ↦ s.agree a b x y h q e ]) }

pub agree_right : {P Q Q' : List ℕ → Type 0} {C : Type 0} → Agree P Q C → Agree P Q' C → Agree P (λ b. Q b ⊎ Q' b) C
agree_right {P} {Q} {Q'} {C} r s = record { agree = λ a b x y p q e. (elim q as (λ _. (a ≡ b) × C) [ inl h ↦ r.agree a b x y p h e | inr h ↦ s.agree a b x y p h e ]) }

-- as many items of each
pub agree_each : {A : Type 0} {R : List ℕ → A → Type 0} → OneReading R → (xs ys : List A) → length xs ≡ length ys → Agree (λ b. Each R b xs) (λ b. Each R b ys) (xs ≡ ys)
agree_each r [] [] e = agree_map (λ _. refl) agree_empty
agree_each {R = R} r (m ∷ xs) (n ∷ ys) e = agree_map (λ s. λ i. s.0 i ∷ s.1 i) (agree_then (agree_from {R = R} r m n) (λ _. agree_each {R = R} r xs ys (omega arith)))
agree_each r [] (n ∷ ys) e = absurd (omega arith)
agree_each r (m ∷ xs) [] e = absurd (omega arith)
