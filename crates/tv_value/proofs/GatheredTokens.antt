-- Tokens that are gathered in their shortest encoding are held.
use Rattle.std.proofs.Common.{◌≡◌, ℕ, ◌+◌, ◌<◌, ◌^◌, List, [], ◌∷◌, ◌++◌, length, take, refl, sym, ◌∙◌, ap, subst, arith, append_assoc, length-append}
use Rattle.std.proofs.Math.Logic.{∥∥₁_elim, ∥∥₁_map}
use Rattle.std.proofs.lemmas.List.{append-nil, take-append-le, take_all}
use Rattle.std.specs.List.{AllByRecursion, flat_map}
use Rattle.std.specs.Coded.{le_prop}
use Rattle.tv_base.specs.Parts.{Each}
use Rattle.tv_base.specs.Sink.{IsPrefix}
use Rattle.tv_format.specs.Encoding.{TokenEncoding}
use Rattle.tv_value.specs.HeldTokens.{AreHeld, HeldTokens}
use Rattle.tv_format.specs.Short.{short_token, IsToken}
use Rattle.tv_format.specs.Tree.{Token}
use Rattle.tv_value.proofs.Kept.{same_tokens}
use Rattle.tv_value.proofs.Payloads.{all_encoded}
use Rattle.tv_format.proofs.ShortEncodings.{tokens_of}

-- ---- none

none : AreHeld [] [] 0 []
none = record {
  others = [];
  joined = refl;
  counted = refl;
  behind = [];
  begins = record { prefix = []; joined = refl; encoded = refl };
  valid = record { count = omega arith; each = tt };
}

pub none_held : (bytes : List ℕ) → bytes ≡ [] → ∥ AreHeld [] bytes 0 [] ∥₁
none_held bytes e = subst (λ z. ∥ AreHeld [] z 0 [] ∥₁) (sym e) ∣ none ∣₁

pub none_gathered : (bytes : List ℕ) → bytes ≡ [] → (y : HeldTokens [] bytes 0) → y.0 ≡ []
none_gathered bytes e y = same_tokens [] bytes 0 y ([], none_held bytes e)

-- ---- one more

pub each_more : (ts : List Token) (t : Token) → AllByRecursion IsToken ts → IsToken t → AllByRecursion IsToken (ts ++ t ∷ [])
each_more [] t p h = (h, tt)
each_more (x ∷ xs) t p h = (p.0, each_more xs t p.1 h)

pub short_more : (ts : List Token) (t : Token) → flat_map short_token (ts ++ t ∷ []) ≡ flat_map short_token ts ++ short_token t
short_more [] t = append-nil (short_token t)
short_more (x ∷ xs) t = ap (λ z. short_token x ++ z) (short_more xs t) ∙ sym (append_assoc (short_token x) (flat_map short_token xs) (short_token t))

held_more : (old new : List ℕ) (count : ℕ) (ts : List Token) (t : Token) → AreHeld [] old count ts → old ≡ flat_map short_token ts → new ≡ old ++ short_token t → IsToken t → length new < 2 ^ 63
    → AreHeld [] new (count + 1) (ts ++ t ∷ [])
held_more old new count ts t a short e h few =
    let is : new ≡ flat_map short_token (ts ++ t ∷ []) = e ∙ ap (λ z. z ++ short_token t) short ∙ sym (short_more ts t) in
    let encoded = subst (λ z. Each TokenEncoding z (ts ++ t ∷ [])) (sym is) (tokens_of (ts ++ t ∷ []) (each_more ts t a.valid.each h)) in
    all_encoded new [] (count + 1) few
    (record {
      tokens = ts ++ t ∷ [];
      counted = omega (arith, ap length a.joined, a.counted, length-append ts (t ∷ []));
      begins = record { prefix = new; joined = sym (append-nil new); encoded = encoded };
    })

pub more_held : (old new : List ℕ) (count : ℕ) (t : Token) (held : HeldTokens [] old count) → old ≡ flat_map short_token held.0 → new ≡ old ++ short_token t → IsToken t → length new < 2 ^ 63
    → ∥ AreHeld [] new (count + 1) (held.0 ++ t ∷ []) ∥₁
more_held old new count t held short e h few = ∥∥₁_map held.1 (λ a. held_more old new count held.0 t a short e h few)

pub more_gathered : (old new : List ℕ) (count : ℕ) (t : Token) (held : HeldTokens [] old count) → old ≡ flat_map short_token held.0 → new ≡ old ++ short_token t → IsToken t → length new < 2 ^ 63
    → (y : HeldTokens [] new (count + 1)) → y.0 ≡ held.0 ++ t ∷ []
more_gathered old new count t held short e h few y = same_tokens [] new (count + 1) y (held.0 ++ t ∷ [], more_held old new count t held short e h few)

-- the same tokens are held by the same bytes
pub kept_held : (old new : List ℕ) (count : ℕ) (held : HeldTokens [] old count) → new ≡ old → ∥ AreHeld [] new count held.0 ∥₁
kept_held old new count held e = subst (λ z. ∥ AreHeld [] z count held.0 ∥₁) (sym e) held.1

pub kept_gathered : (old new : List ℕ) (count : ℕ) (held : HeldTokens [] old count) → new ≡ old → (y : HeldTokens [] new count) → y.0 ≡ held.0
kept_gathered old new count held e y = same_tokens [] new count y (held.0, kept_held old new count held e)

-- the number of tokens stays small
pub few_held : (bytes : List ℕ) (count : ℕ) → HeldTokens [] bytes count → count < 2 ^ 63
few_held bytes count held = ∥∥₁_elim held.1 le_prop (λ a. omega (arith, a.counted, ap length a.joined, a.valid.count))

-- ---- where memory was refused

pub back : (old new : List ℕ) (n : ℕ) → n ≡ length old → IsPrefix old new → take n new ≡ old
back old new n e p = ap (λ z. take n z) p.1 ∙ take-append-le n old p.0 (omega (arith, e)) ∙ take_all n old (omega (arith, e))
