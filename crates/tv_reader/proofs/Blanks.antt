-- Blanks, and the first byte that is none.
use Rattle.std.proofs.Common.{◌≡◌, ◌⊎◌, ℕ, Bool, true, false, eqb, List, [], ◌∷◌, ◌++◌, Ok, Err, refl, sym, ap, subst, ◌∙◌, append_assoc, inl, inr}
use Rattle.std.specs.Prelude.{◌||◌}
use Rattle.std.specs.List.{AllByRecursion}
use Rattle.std.proofs.lemmas.Bool.{cases_Bool, eqb-true, eqb-false, or_parts}
use Rattle.tv_base.specs.declared.cause.Cause.TheVariants.{UnexpectedEnd}
use Rattle.tv_base.proofs.Agrees.{Agrees, same_start}
use Rattle.tv_reader.specs.Legacy.{IsBlank}
use Rattle.tv_reader.specs.LegacyReading.{is_blank, nonblank_at}
use Rattle.tv_reader.proofs.Ended.{Prefix, EndsBefore, ended_agrees}

either : (a b : Bool) → (a || b) ≡ true → (a ≡ true) ⊎ (b ≡ true)
either true b e = inl refl
either false b e = inr e

is_true : (b : ℕ) → is_blank b ≡ true → IsBlank b
is_true b e = elim (either (eqb b 9) _ e) [
  | inl p ↦ inl (eqb-true b 9 p)
  | inr p ↦ inr (elim (either (eqb b 10) _ p) [
    | inl q ↦ inl (eqb-true b 10 q)
    | inr q ↦ inr (elim (either (eqb b 13) _ q) [ inl r ↦ inl (eqb-true b 13 r) | inr r ↦ inr (eqb-true b 32 r) ])
  ])
]

is_false : (b : ℕ) → is_blank b ≡ false → ¬ (IsBlank b)
is_false b e h =
    let p = or_parts (eqb b 9) _ e in
    let q = or_parts (eqb b 10) _ p.1 in
    let r = or_parts (eqb b 13) _ q.1 in
    elim h [
      | inl s ↦ eqb-false b 9 p.0 s
      | inr s ↦ elim s [ inl t ↦ eqb-false b 10 q.0 t | inr t ↦ elim t [ inl u ↦ eqb-false b 13 r.0 u | inr u ↦ eqb-false b 32 r.1 u ] ]
    ]

pub blank_cases : (b : ℕ) → IsBlank b ⊎ ¬ (IsBlank b)
blank_cases b = elim (cases_Bool (is_blank b)) [ inl e ↦ inl (is_true b e) | inr e ↦ inr (is_false b e) ]

pub blank_true : (b : ℕ) → IsBlank b → is_blank b ≡ true
blank_true b h = elim (cases_Bool (is_blank b)) [ inl e ↦ e | inr e ↦ absurd (is_false b e h) ]

pub blank_false : (b : ℕ) → ¬ (IsBlank b) → is_blank b ≡ false
blank_false b h = elim (cases_Bool (is_blank b)) [ inl e ↦ absurd (h (is_true b e)) | inr e ↦ e ]

pub brace_no_blank : ¬ (IsBlank 123)
brace_no_blank = is_false 123 refl

abbrev pub AllBlank : List ℕ → Type 0
AllBlank bytes = AllByRecursion IsBlank bytes

-- blanks, and a byte that is none
pub record AfterBlanks (whole : List ℕ) (b : ℕ) : Type 0 where
  pub blanks : List ℕ
  pub joined : whole ≡ blanks ++ b ∷ []
  pub blank : AllBlank blanks
  pub other : ¬ (IsBlank b)

pub skips : (blanks rest : List ℕ) (b : ℕ) → AllBlank blanks → ¬ (IsBlank b) → nonblank_at (blanks ++ (b ∷ rest)) ≡ Ok (b, rest)
unfolding nonblank_at
skips [] rest b all other = rw (blank_false b other) refl
skips (d ∷ blanks) rest b all other = rw (blank_true d all.0) (skips blanks rest b all.1 other)

pub only_blank : (bytes : List ℕ) → AllBlank bytes → nonblank_at bytes ≡ Err (UnexpectedEnd, [])
unfolding nonblank_at
only_blank [] all = refl
only_blank (d ∷ bytes) all = rw (blank_true d all.0) (only_blank bytes all.1)

skips_to : (prefix : List ℕ) (b : ℕ) (rest : List ℕ) → AfterBlanks prefix b → nonblank_at (prefix ++ rest) ≡ Ok (b, rest)
skips_to prefix b rest p = ap nonblank_at (ap (λ (l : List ℕ). l ++ rest) p.joined ∙ append_assoc p.blanks (b ∷ []) rest) ∙ skips p.blanks rest b p.blank p.other

one_more : (b : ℕ) (bytes : List ℕ) → IsBlank b → Prefix AfterBlanks bytes ⊎ AllBlank bytes → Prefix AfterBlanks (b ∷ bytes) ⊎ AllBlank (b ∷ bytes)
one_more b bytes is (inl f) = inl (record {
  prefix = b ∷ f.prefix;
  rest = f.rest;
  value = f.value;
  joined = ap (λ (l : List ℕ). b ∷ l) f.joined;
  encoded = record { blanks = b ∷ f.encoded.blanks; joined = ap (λ (l : List ℕ). b ∷ l) f.encoded.joined; blank = (is, f.encoded.blank); other = f.encoded.other };
})
one_more b bytes is (inr all) = inr (is, all)

skipped : (bytes : List ℕ) → Prefix AfterBlanks bytes ⊎ AllBlank bytes
skipped [] = inr tt
skipped (b ∷ bytes) = elim (blank_cases b) [
  | inl is ↦ one_more b bytes is (skipped bytes)
  | inr other ↦ inl (record { prefix = b ∷ []; rest = bytes; value = b; joined = refl; encoded = record { blanks = []; joined = refl; blank = tt; other = other } })
]

pub blanks_agree : Agrees UnexpectedEnd nonblank_at AfterBlanks (EndsBefore AllBlank)
blanks_agree = ended_agrees nonblank_at AfterBlanks AllBlank skips_to only_blank skipped
    (λ prefix b p start byte last. subst AllBlank (same_start p.blanks start b byte (sym p.joined ∙ last)) p.blank)
