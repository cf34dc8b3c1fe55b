-- Of any bytes some prefix is of a kind, or they are malformed: how parts that are decided so make a whole that is.
use Rattle.std.proofs.Common.{◌≡◌, ℕ, zero, suc, ◌≤◌, List, [], ◌∷◌, ◌++◌, length, Result, Ok, Err, refl, ap, ◌∙◌, sym, arith, append_assoc, length-append, inl, inr}
use Rattle.tv_base.specs.Parts.{Then, Each}
use Rattle.tv_base.specs.ErrorInPart.{InThen, InEach}
use Rattle.tv_base.specs.Source.{AllBytes}
use Rattle.tv_base.proofs.Agrees.{Agrees}
use Rattle.tv_base.proofs.SmallBytes.{bytes_after}

pub data Decided {A C : Type 0} (R : List ℕ → A → Type 0) (F : List ℕ → C → Type 0) (bytes : List ℕ) : Type 0 where
  begins : (x : A) (prefix rest : List ℕ) → bytes ≡ prefix ++ rest → R prefix x → Decided R F bytes
  malformed : (c : C) → F bytes c → Decided R F bytes

-- all bytes of which there are at most this many
pub record Decides {A C : Type 0} (most : ℕ) (R : List ℕ → A → Type 0) (F : List ℕ → C → Type 0) : Type 0 where
  pub decides : (bytes : List ℕ) → AllBytes bytes → length bytes ≤ most → Decided R F bytes

-- the first part, and the second
abbrev pub Both : {A B : Type 0} → (List ℕ → A → Type 0) → (A → List ℕ → B → Type 0) → List ℕ → A × B → Type 0
Both R S whole pair = Then (λ b. R b pair.0) (λ b. S pair.0 b pair.1) whole

-- ---- the same in other words

decided_as : {A B C D : Type 0} {R : List ℕ → A → Type 0} {F : List ℕ → C → Type 0} {S : List ℕ → B → Type 0} {G : List ℕ → D → Type 0} (to : A → B) (tell : C → D)
    → ((b : List ℕ) (x : A) → R b x → S b (to x)) → ((b : List ℕ) (c : C) → F b c → G b (tell c)) → (bytes : List ℕ) → Decided R F bytes → Decided S G bytes
decided_as to tell encode refuse bytes (begins x prefix rest joined r) = begins (to x) prefix rest joined (encode prefix x r)
decided_as to tell encode refuse bytes (malformed c f) = malformed (tell c) (refuse bytes c f)

pub decides_as : {most : ℕ} {A B C D : Type 0} {R : List ℕ → A → Type 0} {F : List ℕ → C → Type 0} (S : List ℕ → B → Type 0) (G : List ℕ → D → Type 0) (to : A → B) (tell : C → D)
    → ((b : List ℕ) (x : A) → R b x → S b (to x)) → ((b : List ℕ) (c : C) → F b c → G b (tell c)) → Decides most R F → Decides most S G
decides_as S G to tell encode refuse d = record { decides = λ bytes small le. decided_as to tell encode refuse bytes (d.decides bytes small le) }

-- after a code
pub behind_code : {most : ℕ} {A B C D : Type 0} {R : List ℕ → A → Type 0} {F : List ℕ → C → Type 0} (S : List ℕ → B → Type 0) (G : List ℕ → D → Type 0) (to : A → B) (tell : C → D) (code : ℕ)
    → ((b : List ℕ) (x : A) → R b x → S (code ∷ b) (to x)) → ((b : List ℕ) (c : C) → F b c → G (code ∷ b) (tell c))
    → Decides most R F → (rest : List ℕ) → AllBytes rest → length rest ≤ most → Decided S G (code ∷ rest)
behind_code {R = R} {F = F} S G to tell code encode refuse d rest small le = coded (d.decides rest small le)
  where
    coded : Decided R F rest → Decided S G (code ∷ rest)
    coded (begins x prefix after joined r) = begins (to x) (code ∷ prefix) after (ap (λ (l : List ℕ). code ∷ l) joined) (encode prefix x r)
    coded (malformed c f) = malformed (tell c) (refuse rest c f)

-- ---- one part after the other

then_second : {A B C : Type 0} (F : List ℕ → C → Type 0) (R : List ℕ → A → Type 0) (S : A → List ℕ → B → Type 0) (G : A → List ℕ → C → Type 0) (bytes : List ℕ) (x : A) (prefix rest : List ℕ)
    → bytes ≡ prefix ++ rest → R prefix x → Decided (S x) (G x) rest → Decided (Both R S) (InThen F R G) bytes
then_second F R S G bytes x prefix rest joined r (begins y middle after cut s) =
    begins (x, y) (prefix ++ middle) after (joined ∙ ap (λ (l : List ℕ). prefix ++ l) cut ∙ sym (append_assoc prefix middle after)) (record { prefix = prefix; rest = middle; joined = refl; first = r; second = s })
then_second F R S G bytes x prefix rest joined r (malformed c f) = malformed c (inr (x, record { prefix = prefix; rest = rest; joined = joined; first = r; second = f }))

pub decides_then : {most : ℕ} {A B C : Type 0} (F : List ℕ → C → Type 0) (R : List ℕ → A → Type 0) (S : A → List ℕ → B → Type 0) (G : A → List ℕ → C → Type 0)
    → Decides most R F → ((x : A) → Decides most (S x) (G x)) → Decides most (Both R S) (InThen F R G)
decides_then {most} {A} {B} {C} F R S G first second = record { decides = λ bytes small le. after bytes small le (first.decides bytes small le) }
  where
    after : (bytes : List ℕ) → AllBytes bytes → length bytes ≤ most → Decided R F bytes → Decided (Both R S) (InThen F R G) bytes
    after bytes small le (begins x prefix rest joined r) =
        then_second F R S G bytes x prefix rest joined r ((second x).decides rest (bytes_after bytes prefix rest joined small) (omega (arith, ap length joined, length-append prefix rest)))
    after bytes small le (malformed c f) = malformed c (inl f)

-- ---- this many items

abbrev pub Items : {A : Type 0} → (List ℕ → A → Type 0) → ℕ → List ℕ → List A → Type 0
Items R n whole xs = (length xs ≡ n) × Each R whole xs

pub decides_each : {most : ℕ} {A C : Type 0} (F : List ℕ → C → Type 0) (R : List ℕ → A → Type 0) → Decides most R F → (n : ℕ) → Decides most (Items R n) (InEach F R n)
decides_each F R item zero = record { decides = λ bytes small le. begins [] [] bytes refl (refl, refl) }
decides_each F R item (suc n) =
    decides_as (Items R (suc n)) (InEach F R (suc n)) (λ p. p.0 ∷ p.1) (λ c. c)
    (λ b p h. (ap suc h.second.0, record { prefix = h.prefix; rest = h.rest; joined = h.joined; first = h.first; second = h.second.1 })) (λ b c f. f)
    (decides_then F R (λ _. Items R n) (λ _. InEach F R n) item (λ _. decides_each F R item n))

-- ---- what a reading agrees with

pub decides_by : {Y C : Type 0} {end : C} {reading : List ℕ → Result (Y × List ℕ) (C × List ℕ)} {R : List ℕ → Y → Type 0} {F : List ℕ → C → Type 0} (most : ℕ) → Agrees end reading R F → Decides most R F
decides_by {Y} {C} {reading = reading} {R = R} {F = F} most agrees = record { decides = λ bytes small le. read bytes small (reading bytes) refl }
  where
    read : (bytes : List ℕ) → AllBytes bytes → (r : Result (Y × List ℕ) (C × List ℕ)) → reading bytes ≡ r → Decided R F bytes
    read bytes small (Ok x) e = let s = agrees.sound bytes x small e in begins x.0 s.0 x.1 s.2 s.1
    read bytes small (Err x) e = malformed x.0 (agrees.refused bytes x.0 x.1 small e)
