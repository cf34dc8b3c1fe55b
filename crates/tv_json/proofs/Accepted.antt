-- States from which the rest of a text is passed, and bytes by their class.
use Rattle.std.proofs.Common.{◌≡◌, ℕ, ◌≤◌, List, [], ◌∷◌, Bool, true, false, ◌==◌, ◌||◌, cond, refl, sym, ◌∙◌, subst, arith, inl, inr, None, Ok}
use Rattle.std.proofs.lemmas.Bool.{eqb-true, eq-eqb, ne_eqb, true≢false, leb-true, and_parts, or_cases}
use Rattle.std.specs.Char.{is_ascii_digit}
use Rattle.json.specs.Word.{is_operator, is_space}
use Rattle.json.specs.Lex as lex
use Rattle.json.specs.Lex.{Class, class}
use Rattle.tv_json.specs.Faults.{start, next, end_fault, Leads, no_bytes, byte, IsSyntax}
use Rattle.tv_json.specs.declared.json_place.ListKind.{ListKind}
use Rattle.tv_json.specs.declared.json_place.Place.{Place}
use Rattle.tv_json.specs.declared.json_scan.Scan.{Scan}

-- all bytes can come, and the text may end after them
pub data Accepts : Scan → List ℕ → Type 0 where
  ends : {s : Scan} → end_fault s ≡ None → Accepts s []
  more : {s t : Scan} (x : ℕ) {xs : List ℕ} → next s x ≡ Ok t → Accepts t xs → Accepts s (x ∷ xs)

leads : {s : Scan} {xs : List ℕ} → Accepts s xs → (e : Scan) × Leads s xs e × (end_fault e ≡ None)
leads {s} (ends e) = (s, no_bytes, e)
leads (more x e rest) = let r = leads rest in (r.0, byte x e r.1, r.2)

pub is_syntax : (text : List ℕ) → Accepts start text → IsSyntax text
is_syntax text h = let r = leads h in record { end = r.0; passed = r.1; complete = r.2 }

abbrev pub at : Place → List ListKind → Scan
at p lists = record { place = p; lists = lists }

-- ---- bytes

pub is_or_not : (P : ℕ → Type 0) (x c : ℕ) → P c → ((x ≡ c → ⊥) → P x) → P x
is_or_not P x c is other = go (x == c) refl
  where
    go : (b : Bool) → (x == c) ≡ b → P x
    go true e = subst P (sym (eqb-true x c e)) is
    go false e = other (λ same. true≢false (sym (eq-eqb x c same) ∙ e))

pub by_space : (P : ℕ → Type 0) → P 32 → P 9 → P 10 → P 13 → (x : ℕ) → is_space x ≡ true → P x
by_space P a b c d x h =
    is_or_not P x 32 a (λ na. is_or_not P x 9 b (λ nb. is_or_not P x 10 c (λ nc. is_or_not P x 13 d (λ nd.
    absurd (true≢false (sym h ∙ (λ i. ne_eqb x 32 na i || ne_eqb x 9 nb i || ne_eqb x 10 nc i || ne_eqb x 13 nd i)))))))

pub by_operator : (P : ℕ → Type 0) → P 123 → P 125 → P 91 → P 93 → P 58 → P 44 → (x : ℕ) → is_operator x ≡ true → P x
by_operator P a b c d e f x h =
    is_or_not P x 123 a (λ na. is_or_not P x 125 b (λ nb. is_or_not P x 91 c (λ nc. is_or_not P x 93 d (λ nd. is_or_not P x 58 e (λ ne. is_or_not P x 44 f (λ nf.
    absurd (true≢false (sym h ∙ (λ i. ne_eqb x 123 na i || ne_eqb x 125 nb i || ne_eqb x 91 nc i || ne_eqb x 93 nd i || ne_eqb x 58 ne i || ne_eqb x 44 nf i)))))))))

pub by_delimiter :
    (P : ℕ → Type 0) → P 123 → P 125 → P 91 → P 93 → P 58 → P 44 → P 32 → P 9 → P 10 → P 13 → (x : ℕ) → (is_operator x || is_space x) ≡ true → P x
by_delimiter P a b c d e f g i j k x h =
    elim (or_cases (is_operator x) (is_space x) h) [ inl o ↦ by_operator P a b c d e f x o | inr s ↦ by_space P g i j k x s ]

pub by_digit :
    (P : ℕ → Type 0) → P 48 → P 49 → P 50 → P 51 → P 52 → P 53 → P 54 → P 55 → P 56 → P 57 → (x : ℕ) → is_ascii_digit x ≡ true → P x
by_digit P a b c d e f g i j k x h =
    let low : 48 ≤ x = leb-true 48 x (and_parts _ _ h).0 in
    let high : x ≤ 57 = leb-true x 57 (and_parts _ _ h).1 in
    is_or_not P x 48 a (λ n0. is_or_not P x 49 b (λ n1. is_or_not P x 50 c (λ n2. is_or_not P x 51 d (λ n3. is_or_not P x 52 e (λ n4.
    is_or_not P x 53 f (λ n5. is_or_not P x 54 g (λ n6. is_or_not P x 55 i (λ n7. is_or_not P x 56 j (λ n8. is_or_not P x 57 k (λ n9. absurd (omega (arith, low, high))))))))))))

pub class-space : (x : ℕ) → is_space x ≡ true → class x ≡ lex.space
class-space = by_space (λ x. class x ≡ lex.space) refl refl refl refl

pub class-digit : (x : ℕ) → is_ascii_digit x ≡ true → class x ≡ lex.other
class-digit = by_digit (λ x. class x ≡ lex.other) refl refl refl refl refl refl refl refl refl refl

-- what a class says of its bytes
abbrev pub Says : Class → ℕ → Type 0
Says lex.quote x = x ≡ 34
Says lex.backslash x = x ≡ 92
Says lex.operator x = is_operator x ≡ true
Says lex.space x = is_space x ≡ true
Says lex.other x = (is_operator x ≡ false) × (is_space x ≡ false)

pub class-says : (x : ℕ) → Says (class x) x
class-says x = go (x == 34) (x == 92) (is_operator x) (is_space x) refl refl refl refl
  where
    go : (q b o s : Bool) → (x == 34) ≡ q → (x == 92) ≡ b → is_operator x ≡ o → is_space x ≡ s →
        Says (cond q lex.quote (cond b lex.backslash (cond o lex.operator (cond s lex.space lex.other)))) x
    go true b o s e f g h = eqb-true x 34 e
    go false true o s e f g h = eqb-true x 92 f
    go false false true s e f g h = g
    go false false false true e f g h = h
    go false false false false e f g h = (g, h)
