-- A reading whose only error is that the bytes end agrees with its grammar.
use Rattle.std.proofs.Common.{◌≡◌, ◌⊎◌, ℕ, List, [], ◌∷◌, ◌++◌, Result, Ok, Err, sym, ap, subst, ◌∙◌, inl, inr}
use Rattle.tv_base.specs.declared.cause.Cause.{Cause}
use Rattle.tv_base.specs.declared.cause.Cause.TheVariants.{UnexpectedEnd}
use Rattle.tv_base.proofs.Agrees.{Agrees, ok_is, err_is, no_ok}
use Rattle.tv_base.proofs.AgreeWidths.{ended_shown}

-- a prefix of the bytes encodes something
pub record Prefix {Y : Type 0} (Encodes : List ℕ → Y → Type 0) (bytes : List ℕ) : Type 0 where
  pub prefix : List ℕ
  pub rest : List ℕ
  pub value : Y
  pub joined : bytes ≡ prefix ++ rest
  pub encoded : Encodes prefix value

abbrev pub EndsBefore : (List ℕ → Type 0) → List ℕ → Cause → Type 0
EndsBefore None bytes c = (c ≡ UnexpectedEnd) × None bytes

module _ {Y : Type 0} (reading : List ℕ → Result (Y × List ℕ) (Cause × List ℕ)) (Encodes : List ℕ → Y → Type 0) (None : List ℕ → Type 0)
    (read : (prefix : List ℕ) (y : Y) (rest : List ℕ) → Encodes prefix y → reading (prefix ++ rest) ≡ Ok (y, rest))
    (ended : (bytes : List ℕ) → None bytes → reading bytes ≡ Err (UnexpectedEnd, []))
    (decided : (bytes : List ℕ) → Prefix Encodes bytes ⊎ None bytes)
    (before : (prefix : List ℕ) (y : Y) → Encodes prefix y → (start : List ℕ) (byte : ℕ) → prefix ≡ start ++ byte ∷ [] → None start) where
  -- what is read of bytes that begin so
  found : (bytes : List ℕ) (f : Prefix Encodes bytes) → reading bytes ≡ Ok (f.value, f.rest)
  found bytes f = ap reading f.joined ∙ read f.prefix f.value f.rest f.encoded

  sound_by : (bytes : List ℕ) (x : Y × List ℕ) → Prefix Encodes bytes ⊎ None bytes → reading bytes ≡ Ok x → (prefix : List ℕ) × Encodes prefix x.0 × (bytes ≡ prefix ++ x.1)
  sound_by bytes x (inl f) e =
      let q = ok_is (Cause × List ℕ) (f.value, f.rest) x (sym (found bytes f) ∙ e) in
      (f.prefix, subst (Encodes f.prefix) (ap (λ z. z.0) q) f.encoded, f.joined ∙ ap (λ (l : List ℕ). f.prefix ++ l) (ap (λ z. z.1) q))
  sound_by bytes x (inr none) e = absurd (no_ok _ _ (sym (ended bytes none) ∙ e))

  none_by : (bytes : List ℕ) (x : Cause × List ℕ) → Prefix Encodes bytes ⊎ None bytes → reading bytes ≡ Err x → None bytes
  none_by bytes x (inl f) e = absurd (no_ok _ _ (sym e ∙ found bytes f))
  none_by bytes x (inr none) e = none

  pub ended_agrees : Agrees UnexpectedEnd reading Encodes (EndsBefore None)
  ended_agrees = record {
    sound = λ bytes x small e. sound_by bytes x (decided bytes) e;
    complete = read;
    refused = λ bytes c rest small e.
        let none = none_by bytes (c, rest) (decided bytes) e in
        (sym (ap (λ z. z.0) (err_is (Y × List ℕ) (UnexpectedEnd, []) (c, rest) (sym (ended bytes none) ∙ e))), none);
    before = λ prefix y encodes start byte last. ended start (before prefix y encodes start byte last);
    shown = λ bytes c rest small e. ended_shown reading bytes rest c (ended bytes (none_by bytes (c, rest) (decided bytes) e)) e;
  }
