-- Texts without their escapes.
use Rattle.std.proofs.Common.{◌≡◌, ℕ, ◌+◌, ◌<◌, ◌≤◌, Bool, true, false, ◌&&◌, ◌||◌, List, [], ◌∷◌, length, drop, get_or, refl, sym, ◌∙◌, ap, eqb, eq-eqb, arith}
use Rattle.std.specs.List.{list_any}
use Rattle.std.specs.Str.{bytes_eq}
use Rattle.std.proofs.lemmas.Bool.{ne_eqb}
use Rattle.std.proofs.lemmas.List.{drop_all}
use Rattle.tv_base.specs.Escapes.{kept_byte, without_escapes}
use Rattle.tv_base.proofs.Rewriting.{rewritten_from, rewritten-from, rewritten_from-drop}

plain_case : (c : Bool) (u : Bool) (b : ℕ) (bs : List ℕ) → eqb b 92 ≡ c → (c || list_any (λ b. eqb b 92) bs) ≡ false → ((v : Bool) → list_any (λ b. eqb b 92) bs ≡ false → rewritten_from kept_byte v bs ≡ bs) → rewritten_from kept_byte u (b ∷ bs) ≡ b ∷ bs
plain_case true u b bs is none more = cc
plain_case false u b bs is none more = rw is (ap (λ l. b ∷ l) (more true none))

plain : (u : Bool) (text : List ℕ) → list_any (λ b. eqb b 92) text ≡ false → rewritten_from kept_byte u text ≡ text
plain u [] none = refl
plain u (b ∷ bs) none = plain_case (eqb b 92) u b bs refl none (λ v h. plain v bs h)

-- nothing goes where no backslash is
pub without_escapes-plain : (text : List ℕ) → list_any (λ b. eqb b 92) text ≡ false → without_escapes text ≡ text
without_escapes-plain text none = rewritten-from kept_byte text ∙ plain true text none

-- what is left of the text, byte by byte: an escape goes ..
after-escape : (unescaped : Bool) (text : List ℕ) (i : ℕ) → i < length text → (eqb (get_or text i 0) 92 && unescaped) ≡ true → rewritten_from kept_byte unescaped (drop i text) ≡ rewritten_from kept_byte false (drop (i + 1) text)
after-escape unescaped text i h escape = rw escape at (rewritten_from-drop kept_byte unescaped text i h)

-- .. and another byte stays
after-kept : (unescaped : Bool) (text : List ℕ) (i : ℕ) → i < length text → (eqb (get_or text i 0) 92 && unescaped) ≡ false → rewritten_from kept_byte unescaped (drop i text) ≡ get_or text i 0 ∷ rewritten_from kept_byte true (drop (i + 1) text)
after-kept unescaped text i h kept = rw kept at (rewritten_from-drop kept_byte unescaped text i h)

same_first : (b : ℕ) (bs cs : List ℕ) → bytes_eq (b ∷ bs) (b ∷ cs) ≡ bytes_eq bs cs
same_first b bs cs = rw (eq-eqb b b refl) refl

other_first : (b c : ℕ) (bs cs : List ℕ) → (b ≡ c → ⊥) → bytes_eq (b ∷ bs) (c ∷ cs) ≡ false
other_first b c bs cs apart = rw (ne_eqb b c apart) refl

module _ (answer unescaped : Bool) (text rest : List ℕ) (i : ℕ) where
  -- a name's rest is compared with the text after an escape
  pub compare-escape : i < length text → (eqb (get_or text i 0) 92 && unescaped) ≡ true → answer ≡ bytes_eq rest (rewritten_from kept_byte unescaped (drop i text)) → answer ≡ bytes_eq rest (rewritten_from kept_byte false (drop (i + 1) text))
  compare-escape h escape e = e ∙ ap (bytes_eq rest) (after-escape unescaped text i h escape)

  -- after a byte that both have
  pub compare-same : (others : List ℕ) → i < length text → (eqb (get_or text i 0) 92 && unescaped) ≡ false → rest ≡ get_or text i 0 ∷ others → answer ≡ bytes_eq rest (rewritten_from kept_byte unescaped (drop i text)) → answer ≡ bytes_eq others (rewritten_from kept_byte true (drop (i + 1) text))
  compare-same others h kept is e =
      e ∙ ap (bytes_eq rest) (after-kept unescaped text i h kept)
      ∙ ap (λ l. bytes_eq l (get_or text i 0 ∷ rewritten_from kept_byte true (drop (i + 1) text))) is
      ∙ same_first (get_or text i 0) others (rewritten_from kept_byte true (drop (i + 1) text))

  -- at a byte that the name has otherwise
  pub compare-other : (first : ℕ) (others : List ℕ) → i < length text → (eqb (get_or text i 0) 92 && unescaped) ≡ false → rest ≡ first ∷ others → (first ≡ get_or text i 0 → ⊥) → answer ≡ bytes_eq rest (rewritten_from kept_byte unescaped (drop i text)) → false ≡ answer
  compare-other first others h kept is apart e =
      sym (e ∙ ap (bytes_eq rest) (after-kept unescaped text i h kept)
      ∙ ap (λ l. bytes_eq l (get_or text i 0 ∷ rewritten_from kept_byte true (drop (i + 1) text))) is
      ∙ other_first first (get_or text i 0) others (rewritten_from kept_byte true (drop (i + 1) text)) apart)

  -- at a byte that the name doesn't have
  pub compare-none : i < length text → (eqb (get_or text i 0) 92 && unescaped) ≡ false → length rest ≡ 0 → answer ≡ bytes_eq rest (rewritten_from kept_byte unescaped (drop i text)) → false ≡ answer
  compare-none h kept none e =
      sym (e ∙ ap (bytes_eq rest) (after-kept unescaped text i h kept)
      ∙ ap (λ l. bytes_eq l (get_or text i 0 ∷ rewritten_from kept_byte true (drop (i + 1) text))) (drop_all 0 rest (omega arith)))

  -- at the end
  pub compare-end : length text ≤ i → answer ≡ bytes_eq rest (rewritten_from kept_byte unescaped (drop i text)) → eqb (length rest) 0 ≡ answer
  compare-end h e = sym (e ∙ ap (λ l. bytes_eq rest (rewritten_from kept_byte unescaped l)) (drop_all i text h) ∙ against_none rest)
    where
      against_none : (rest : List ℕ) → bytes_eq rest [] ≡ eqb (length rest) 0
      against_none [] = refl
      against_none (x ∷ rest) = sym (ne_eqb (length (x ∷ rest)) 0 (λ none. absurd (omega arith)))
