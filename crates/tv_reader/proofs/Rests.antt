-- Bytes up to the first at which as many braces have closed as have opened.
use Rattle.std.proofs.Common.{◌≡◌, ◌≢◌, ◌⊎◌, ℕ, true, false, List, [], ◌∷◌, ◌++◌, Ok, Err, refl, sym, ap, subst, ◌∙◌, append_assoc, inl, inr}
use Rattle.std.proofs.lemmas.Bool.{cases_Bool}
use Rattle.tv_base.specs.declared.cause.Cause.TheVariants.{UnexpectedEnd}
use Rattle.tv_base.proofs.Agrees.{Agrees, no_last}
use Rattle.tv_reader.specs.LegacyReading.{is_even, rest_at}
use Rattle.tv_reader.proofs.Ended.{Prefix, EndsBefore, ended_agrees}

-- after a prefix, the bytes end where they are even first, and make the slice
abbrev pub Until : List ℕ → List ℕ → List ℕ → Type 0
Until prefix [] slice = ⊥
Until prefix (b ∷ bytes) slice =
    ((is_even (prefix ++ b ∷ []) ≡ true) × (bytes ≡ []) × (slice ≡ prefix ++ b ∷ []))
    ⊎ ((is_even (prefix ++ b ∷ []) ≡ false) × Until (prefix ++ b ∷ []) bytes slice)

-- they are even nowhere
abbrev pub Never : List ℕ → List ℕ → Type 0
Never prefix [] = Unit {0}
Never prefix (b ∷ bytes) = (is_even (prefix ++ b ∷ []) ≡ false) × Never (prefix ++ b ∷ []) bytes

pub reads : (prefix start slice rest : List ℕ) → Until prefix start slice → rest_at prefix (start ++ rest) ≡ Ok (slice, rest)
unfolding rest_at
reads prefix [] slice rest h = absurd h
reads prefix (b ∷ bytes) slice rest (inl h) = rw h.0 (ap (λ (l : List ℕ). Ok (l, bytes ++ rest)) (sym h.2) ∙ ap (λ (l : List ℕ). Ok (slice, l ++ rest)) h.1)
reads prefix (b ∷ bytes) slice rest (inr h) = rw h.0 (reads (prefix ++ b ∷ []) bytes slice rest h.1)

pub never : (prefix bytes : List ℕ) → Never prefix bytes → rest_at prefix bytes ≡ Err (UnexpectedEnd, [])
unfolding rest_at
never prefix [] h = refl
never prefix (b ∷ bytes) h = rw h.0 (never (prefix ++ b ∷ []) bytes h.1)

later : (prefix : List ℕ) (b : ℕ) (bytes : List ℕ) → is_even (prefix ++ b ∷ []) ≡ false → Prefix (Until (prefix ++ b ∷ [])) bytes ⊎ Never (prefix ++ b ∷ []) bytes → Prefix (Until prefix) (b ∷ bytes) ⊎ Never prefix (b ∷ bytes)
later prefix b bytes odd (inl f) = inl (record { prefix = b ∷ f.prefix; rest = f.rest; value = f.value; joined = ap (λ (l : List ℕ). b ∷ l) f.joined; encoded = inr (odd, f.encoded) })
later prefix b bytes odd (inr h) = inr (odd, h)

pub decided : (prefix bytes : List ℕ) → Prefix (Until prefix) bytes ⊎ Never prefix bytes
decided prefix [] = inr tt
decided prefix (b ∷ bytes) = elim (cases_Bool (is_even (prefix ++ b ∷ []))) [
  | inl even ↦ inl (record { prefix = b ∷ []; rest = bytes; value = prefix ++ b ∷ []; joined = refl; encoded = inl (even, refl, refl) })
  | inr odd ↦ later prefix b bytes odd (decided (prefix ++ b ∷ []) bytes)
]

-- without the last byte they are even nowhere
early : (prefix bytes slice : List ℕ) → Until prefix bytes slice → (start : List ℕ) (byte : ℕ) → bytes ≡ start ++ byte ∷ [] → Never prefix start
early prefix [] slice h start byte last = absurd h
early prefix (b ∷ bytes) slice h [] byte last = tt
early prefix (b ∷ bytes) slice (inl h) (d ∷ start) byte last = let left : bytes ≡ start ++ byte ∷ [] = cc in absurd (no_last start byte (sym h.1 ∙ left))
early prefix (b ∷ bytes) slice (inr h) (d ∷ start) byte last =
    let head : b ≡ d = cc in
    let left : bytes ≡ start ++ byte ∷ [] = cc in
    subst (λ (n : ℕ). Never prefix (n ∷ start)) head (h.0, early (prefix ++ b ∷ []) bytes slice h.1 start byte left)

pub rests_agree : (prefix : List ℕ) → Agrees UnexpectedEnd (rest_at prefix) (Until prefix) (EndsBefore (Never prefix))
rests_agree prefix = ended_agrees (rest_at prefix) (Until prefix) (Never prefix) (λ start slice rest h. reads prefix start slice rest h) (never prefix) (decided prefix)
    (λ start slice h. early prefix start slice h)

-- ---- in whole slices

-- all that is known where the bytes end first
pub record FirstAt (prefix start slice : List ℕ) : Type 0 where
  pub is : slice ≡ prefix ++ start
  pub even : is_even slice ≡ true
  pub some : start ≢ []
  pub first : (s more : List ℕ) → start ≡ s ++ more → s ≢ [] → more ≢ [] → is_even (prefix ++ s) ≡ false

no_head : (b : ℕ) (bytes : List ℕ) → b ∷ bytes ≢ []
no_head b bytes e = absurd cc

-- a prefix of some bytes and one more
one_more : (prefix : List ℕ) (b : ℕ) (bytes : List ℕ) → prefix ++ (b ∷ bytes) ≡ (prefix ++ b ∷ []) ++ bytes
one_more prefix b bytes = sym (append_assoc prefix (b ∷ []) bytes)

first_later : (prefix bytes : List ℕ) (b : ℕ) → is_even (prefix ++ b ∷ []) ≡ false → ((s more : List ℕ) → bytes ≡ s ++ more → s ≢ [] → more ≢ [] → is_even ((prefix ++ b ∷ []) ++ s) ≡ false)
    → (s more : List ℕ) → b ∷ bytes ≡ s ++ more → s ≢ [] → more ≢ [] → is_even (prefix ++ s) ≡ false
first_later prefix bytes b odd rest [] more e some others = absurd (some refl)
first_later prefix bytes b odd rest (d ∷ []) more e some others = let head : b ≡ d = cc in subst (λ (n : ℕ). is_even (prefix ++ n ∷ []) ≡ false) head odd
first_later prefix bytes b odd rest (d ∷ (g ∷ s)) more e some others =
    let head : b ≡ d = cc in
    let left : bytes ≡ (g ∷ s) ++ more = cc in
    let whole : (prefix ++ b ∷ []) ++ (g ∷ s) ≡ prefix ++ (d ∷ (g ∷ s)) = append_assoc prefix (b ∷ []) (g ∷ s) ∙ ap (λ (n : ℕ). prefix ++ (n ∷ (g ∷ s))) head in
    subst (λ (l : List ℕ). is_even l ≡ false) whole (rest (g ∷ s) more left (no_head g s) others)

one_byte : (b : ℕ) (s more : List ℕ) → b ∷ [] ≡ s ++ more → s ≢ [] → more ≢ [] → ⊥
one_byte b [] more e some others = some refl
one_byte b (d ∷ s) [] e some others = others refl
one_byte b (d ∷ []) (g ∷ more) e some others = absurd cc
one_byte b (d ∷ (h ∷ s)) (g ∷ more) e some others = absurd cc

pub until_first : (prefix start slice : List ℕ) → Until prefix start slice → FirstAt prefix start slice
until_first prefix [] slice h = absurd h
until_first prefix (b ∷ bytes) slice (inl h) = record {
  is = h.2 ∙ ap (λ (l : List ℕ). prefix ++ (b ∷ l)) (sym h.1);
  even = ap is_even h.2 ∙ h.0;
  some = no_head b bytes;
  first = λ s more e some others. absurd (one_byte b s more (ap (λ (l : List ℕ). b ∷ l) (sym h.1) ∙ e) some others);
}
until_first prefix (b ∷ bytes) slice (inr h) =
    let f = until_first (prefix ++ b ∷ []) bytes slice h.1 in
    record { is = f.is ∙ append_assoc prefix (b ∷ []) bytes; even = f.even; some = no_head b bytes; first = first_later prefix bytes b h.0 f.first }

pub first_until : (prefix start slice : List ℕ) → FirstAt prefix start slice → Until prefix start slice
first_until prefix [] slice f = absurd (f.some refl)
first_until prefix (b ∷ []) slice f = inl (ap is_even (sym f.is) ∙ f.even, refl, f.is)
first_until prefix (b ∷ (d ∷ bytes)) slice f = inr (
  f.first (b ∷ []) (d ∷ bytes) refl (no_head b []) (no_head d bytes),
  first_until (prefix ++ b ∷ []) (d ∷ bytes) slice (record {
    is = f.is ∙ one_more prefix b (d ∷ bytes);
    even = f.even;
    some = no_head d bytes;
    first = λ s more e some others.
        subst (λ (l : List ℕ). is_even l ≡ false) (one_more prefix b s) (f.first (b ∷ s) more (ap (λ (l : List ℕ). b ∷ l) e) (no_head b s) others);
  }),
)
