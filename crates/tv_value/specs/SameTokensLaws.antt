-- Tokens are the same exactly where they are equal, and so are texts with their tokens.
use Rattle.std.specs.Prelude.{◌≡◌, ℕ, Bool, List, nat_eq, refl}
use Rattle.std.specs.Bool.{Decides}
use Rattle.std.specs.Cmp.{IsPartialEquivalence, IsEquivalence, equiv, unsigned_Decides}
use Rattle.std.specs.Cmp.Lexicographic.{pointwise}
use Rattle.std.proofs.Common.{ap, sym, ◌∙◌}
use Rattle.std.proofs.lemmas.Bool.Decides.{Decides-and, Decides-like, same_from_decides}
use Rattle.std.proofs.lemmas.Slice.Eq.{slice_eq-Decides}
use Rattle.tv_value.specs.SameTokens.{token_eq, tokens_eq, tokenized_eq}
use Rattle.tv_format.specs.Tree.{Token}

text_eq-Decides : (s t : List ℕ) → Decides (pointwise nat_eq s t) (s ≡ t)
text_eq-Decides s t = slice_eq-Decides unsigned_Decides s t (pointwise nat_eq s t) refl

pub token_eq-Decides : (s t : Token) → Decides (token_eq s t) (s ≡ t)
token_eq-Decides s t =
    Decides-like (token_eq s t)
    (λ e. λ i. record {
      offset_from = e.0 i;
      offset_to = e.1.0 i;
      position = e.1.1.0 i;
      text = e.1.1.1.0 i;
      position_length = e.1.1.1.1 i;
    })
    (λ e. (
      ap (λ z. z.offset_from) e,
      (
        ap (λ z. z.offset_to) e,
        (ap (λ z. z.position) e, (ap (λ z. z.text) e, ap (λ z. z.position_length) e)),
      ),
    ))
    (Decides-and _ _ (unsigned_Decides s.offset_from t.offset_from)
    (Decides-and _ _ (unsigned_Decides s.offset_to t.offset_to)
    (Decides-and _ _ (unsigned_Decides s.position t.position)
    (Decides-and _ _ (text_eq-Decides s.text t.text)
    (unsigned_Decides s.position_length t.position_length)))))

pub tokens_eq-Decides : (s t : List Token) → Decides (tokens_eq s t) (s ≡ t)
tokens_eq-Decides s t = slice_eq-Decides token_eq-Decides s t (tokens_eq s t) refl

pub tokenized_eq-Decides : (s t : List ℕ × List Token) → Decides (tokenized_eq s t) (s ≡ t)
tokenized_eq-Decides s t =
    Decides-like (tokenized_eq s t) (λ e. λ i. (e.0 i, e.1 i)) (λ e. (ap (λ z. z.0) e, ap (λ z. z.1) e))
    (Decides-and _ _ (text_eq-Decides s.0 t.0) (tokens_eq-Decides s.1 t.1))

-- what decides equality is an equivalence
pub deciding_per : {A : Type 0} {E : A → A → Bool} → ((a b : A) → Decides (E a b) (a ≡ b))
    → IsPartialEquivalence E
deciding_per {A} {E} d = record {
  symm = λ x y. same_from_decides (E x y) (E y x) (d x y) (Decides-like (E y x) sym sym (d y x));
  trans = λ x y z h k. (d x z).1 ((d x y).0 h ∙ (d y z).0 k);
}

pub deciding_equiv : {A : Type 0} {E : A → A → Bool} → ((a b : A) → Decides (E a b) (a ≡ b)) → IsEquivalence E
deciding_equiv d = equiv (deciding_per d) (λ x. (d x x).1 refl)
