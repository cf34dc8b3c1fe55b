-- Truth values agree with their grammar.
use Rattle.std.proofs.Common.{◌≡◌, ◌⊎◌, ℕ, zero, suc, Bool, true, false, ltb, eqb, List, [], ◌∷◌, ◌++◌, refl, sym, ap, subst, ◌∙◌, arith, inl, inr}
use Rattle.std.proofs.lemmas.List.{append-nil, nil_from_length}
use Rattle.std.proofs.lemmas.Bool.{ltb-true, lt-ltb}
use Rattle.tv_base.specs.declared.cause.Cause.{Cause}
use Rattle.tv_base.specs.declared.cause.Cause.TheVariants.{UnexpectedEnd, BadBool}
use Rattle.tv_base.specs.Source.{AllBytes}
use Rattle.tv_base.specs.Number.{Truth}
use Rattle.tv_base.specs.ErrorInPart.{InThen, ErrorInBytes, ErrorInTruth, truth_ends, truth_large}
use Rattle.tv_base.specs.Reading.{truth_at}
use Rattle.tv_base.proofs.Agrees.{Agrees, InTurn, agrees_too, in_turn, chosen, nothing_read, nothing_stands}
use Rattle.tv_base.proofs.AgreeWidths.{IsCode, bytes_error, code_agrees}

abbrev OfByte : ℕ → List ℕ → Bool → Type 0
OfByte b bytes truth = ((ltb 1 b ≡ true) × ⊥) ⊎ ((ltb 1 b ≡ false) × ((bytes ≡ []) × (truth ≡ eqb b 1)))

abbrev ErrorInOfByte : ℕ → List ℕ → Cause → Type 0
ErrorInOfByte b bytes c = ((ltb 1 b ≡ true) × (c ≡ BadBool)) ⊎ ((ltb 1 b ≡ false) × ⊥)

impossible : true ≡ false → ⊥
impossible e = absurd cc

small_truth : (b : ℕ) (bytes : List ℕ) (truth : Bool) → ltb 1 b ≡ false → bytes ≡ b ∷ [] → truth ≡ eqb b 1 → Truth bytes truth
small_truth zero bytes truth h e t = subst (Truth bytes) (sym t) e
small_truth (suc zero) bytes truth h e t = subst (Truth bytes) (sym t) e
small_truth (suc (suc b)) bytes truth h e t = absurd (impossible (sym (lt-ltb 1 (suc (suc b)) (omega arith)) ∙ h))

truth_to : (bytes : List ℕ) (truth : Bool) → AllBytes bytes → InTurn IsCode OfByte bytes truth → Truth bytes truth
truth_to bytes truth small p = elim p.1.second [
  | inl q ↦ absurd q.1
  | inr q ↦ small_truth p.0 bytes truth q.0 (p.1.joined ∙ ap (λ (l : List ℕ). p.1.prefix ++ l) q.1.0 ∙ append-nil p.1.prefix ∙ p.1.first) q.1.1
]

truth_from : (bytes : List ℕ) (truth : Bool) → Truth bytes truth → InTurn IsCode OfByte bytes truth
truth_from bytes false h = (0, record { prefix = bytes; rest = []; joined = sym (append-nil bytes); first = h; second = inr (refl, (refl, refl)) })
truth_from bytes true h = (1, record { prefix = bytes; rest = []; joined = sym (append-nil bytes); first = h; second = inr (refl, (refl, refl)) })

truth_errors : (bytes : List ℕ) (c : Cause) → AllBytes bytes → InThen (ErrorInBytes 1) IsCode ErrorInOfByte bytes c → ErrorInTruth bytes c
truth_errors bytes c small p = elim p [
  | inl q ↦
      let h = bytes_error 1 bytes c q in
      subst (ErrorInTruth bytes) (sym h.0) (truth_ends (nil_from_length bytes (omega (arith, h.1))))
  | inr q ↦ elim q.1.second [
    | inl r ↦ subst (ErrorInTruth bytes) (sym r.1) (truth_large q.0 q.1.rest (q.1.joined ∙ ap (λ (l : List ℕ). l ++ q.1.rest) q.1.first) (ltb-true 1 q.0 r.0))
    | inr r ↦ absurd r.1
  ]
]

pub truth_agrees : Agrees UnexpectedEnd truth_at Truth ErrorInTruth
unfolding truth_at
truth_agrees = agrees_too (λ bytes. refl) truth_to truth_from truth_errors
    (in_turn code_agrees (λ b. chosen (ltb 1 b) (nothing_stands BadBool (λ e. cc)) (nothing_read UnexpectedEnd (eqb b 1))))
