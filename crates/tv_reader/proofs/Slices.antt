-- Blanks and a closed slice: the reading agrees with the grammar.
use Rattle.std.proofs.Common.{◌≡◌, ◌≢◌, ◌⊎◌, ℕ, true, false, eqb, List, [], ◌∷◌, ◌++◌, Ok, Err, refl, sym, ap, subst, ◌∙◌, append_assoc, inl, inr}
use Rattle.std.proofs.lemmas.Bool.{eqb-true, eqb-false, eq-eqb, ne_eqb}
use Rattle.tv_base.specs.declared.cause.Cause.{Cause}
use Rattle.tv_base.specs.declared.cause.Cause.TheVariants.{UnexpectedEnd, LegacyJson}
use Rattle.tv_base.specs.ErrorInPart.{InThen}
use Rattle.tv_base.specs.Stop.{◌>>=◌}
use Rattle.tv_base.proofs.Agrees.{Agrees, InTurn, agrees_too, in_turn, chosen, nothing_stands}
use Rattle.tv_reader.specs.Legacy.{IsBlank, opened, closed, IsClosed, Slice}
use Rattle.tv_reader.specs.LegacyReading.{is_even, nonblank_at, rest_at, braced_at, slice_at}
use Rattle.tv_reader.proofs.Ended.{Prefix, EndsBefore}
use Rattle.tv_reader.proofs.Blanks.{AllBlank, AfterBlanks, brace_no_blank, skips, only_blank, blanks_agree}
use Rattle.tv_reader.proofs.Rests.{Until, Never, FirstAt, until_first, first_until, rests_agree, never}

-- ---- closed slices, by what follows the first brace

brace_first : (more prefix rest : List ℕ) → 123 ∷ more ≡ prefix ++ rest → prefix ≢ [] → (s : List ℕ) × (prefix ≡ 123 ∷ s) × (more ≡ s ++ rest)
brace_first more [] rest e some = absurd (some refl)
brace_first more (b ∷ s) rest e some =
    let head : 123 ≡ b = cc in
    let left : more ≡ s ++ rest = cc in
    (s, ap (λ (n : ℕ). n ∷ s) (sym head), left)

-- one brace alone isn't closed
open_brace : closed (123 ∷ []) ≢ opened (123 ∷ [])
open_brace e = absurd cc

odd : (prefix : List ℕ) → is_even prefix ≡ false → closed prefix ≢ opened prefix
odd prefix e = eqb-false (closed prefix) (opened prefix) e

odd_prefix : (more : List ℕ) (f : FirstAt (123 ∷ []) more (123 ∷ more)) (prefix rest s : List ℕ) → prefix ≡ 123 ∷ s → more ≡ s ++ rest → rest ≢ [] → closed prefix ≢ opened prefix
odd_prefix more f prefix rest [] is left others = subst (λ (l : List ℕ). closed l ≢ opened l) (sym is) open_brace
odd_prefix more f prefix rest (b ∷ s) is left others = subst (λ (l : List ℕ). closed l ≢ opened l) (sym is) (odd (123 ∷ (b ∷ s)) (f.first (b ∷ s) rest left (λ e. absurd cc) others))

pub closed_from : (more slice : List ℕ) → Until (123 ∷ []) more slice → IsClosed slice
closed_from more slice h =
    let f = until_first (123 ∷ []) more slice h in
    let whole : FirstAt (123 ∷ []) more (123 ∷ more) = subst (FirstAt (123 ∷ []) more) f.is f in
    record {
      more = more;
      opens = f.is;
      closes = eqb-true (closed slice) (opened slice) f.even;
      first = λ prefix rest e some others.
          let b = brace_first more prefix rest (sym f.is ∙ e) some in
          odd_prefix more whole prefix rest b.0 b.1 b.2 others;
    }

some_more : (slice more : List ℕ) → slice ≡ 123 ∷ more → closed slice ≡ opened slice → more ≢ []
some_more slice more is even none =
    let alone : slice ≡ 123 ∷ [] = is ∙ ap (λ (l : List ℕ). 123 ∷ l) none in
    open_brace (subst (λ (l : List ℕ). closed l ≡ opened l) alone even)

pub closed_to : (slice : List ℕ) (h : IsClosed slice) → Until (123 ∷ []) h.more slice
closed_to slice h = first_until (123 ∷ []) h.more slice (record {
  is = h.opens;
  even = eq-eqb (closed slice) (opened slice) h.closes;
  some = some_more slice h.more h.opens h.closes;
  first = λ s more e some others.
      ne_eqb _ _ (h.first (123 ∷ s) more (h.opens ∙ ap (λ (l : List ℕ). 123 ∷ l) e) (λ e. absurd cc) others);
})

-- ---- after blanks

abbrev pub Braced : ℕ → List ℕ → List ℕ → Type 0
Braced b bytes slice = ((eqb b 123 ≡ true) × Until (123 ∷ []) bytes slice) ⊎ ((eqb b 123 ≡ false) × ⊥)

abbrev pub ErrorInBraced : ℕ → List ℕ → Cause → Type 0
ErrorInBraced b bytes c = ((eqb b 123 ≡ true) × EndsBefore (Never (123 ∷ [])) bytes c) ⊎ ((eqb b 123 ≡ false) × (c ≡ LegacyJson))

-- what is wrong with bytes that are no blanks with a closed slice after them
pub data ErrorInSlice (whole : List ℕ) : Cause → Type 0 where
  no_byte : AllBlank whole → ErrorInSlice whole UnexpectedEnd
  never_closed : (blanks rest : List ℕ) → whole ≡ blanks ++ (123 ∷ rest) → AllBlank blanks → Never (123 ∷ []) rest → ErrorInSlice whole UnexpectedEnd
  other_byte : (blanks rest : List ℕ) (b : ℕ) → whole ≡ blanks ++ (b ∷ rest) → AllBlank blanks → ¬ (IsBlank b) → b ≢ 123 → ErrorInSlice whole LegacyJson

-- blanks and a byte, and what follows them
behind_blanks : (whole prefix rest : List ℕ) (b : ℕ) (p : AfterBlanks prefix b) → whole ≡ prefix ++ rest → whole ≡ p.blanks ++ (b ∷ rest)
behind_blanks whole prefix rest b p e = e ∙ ap (λ (l : List ℕ). l ++ rest) p.joined ∙ append_assoc p.blanks (b ∷ []) rest

slice_to : (whole slice : List ℕ) → InTurn AfterBlanks Braced whole slice → Slice whole slice
slice_to whole slice p = elim p.1.second [
  | inl q ↦
      let f = until_first (123 ∷ []) p.1.rest slice q.1 in
      let is : p.0 ≡ 123 = eqb-true p.0 123 q.0 in
      record {
        blanks = p.1.first.blanks;
        joined = behind_blanks whole p.1.prefix p.1.rest p.0 p.1.first p.1.joined ∙ ap (λ (n : ℕ). p.1.first.blanks ++ (n ∷ p.1.rest)) is ∙ ap (λ (l : List ℕ). p.1.first.blanks ++ l) (sym f.is);
        blank = p.1.first.blank;
        is_closed = closed_from p.1.rest slice q.1;
      }
  | inr q ↦ absurd q.1
]

slice_from : (whole slice : List ℕ) → Slice whole slice → InTurn AfterBlanks Braced whole slice
slice_from whole slice h = (
  123,
  record {
    prefix = h.blanks ++ 123 ∷ [];
    rest = h.is_closed.more;
    joined = h.joined ∙ ap (λ (l : List ℕ). h.blanks ++ l) h.is_closed.opens ∙ sym (append_assoc h.blanks (123 ∷ []) h.is_closed.more);
    first = record { blanks = h.blanks; joined = refl; blank = h.blank; other = brace_no_blank };
    second = inl (refl, closed_to slice h.is_closed);
  },
)

slice_errors : (whole : List ℕ) (c : Cause) → InThen (EndsBefore AllBlank) AfterBlanks ErrorInBraced whole c → ErrorInSlice whole c
slice_errors whole c p = elim p [
  | inl q ↦ subst (ErrorInSlice whole) (sym q.0) (no_byte q.1)
  | inr q ↦
      let behind = behind_blanks whole q.1.prefix q.1.rest q.0 q.1.first q.1.joined in
      elim q.1.second [
        | inl r ↦ subst (ErrorInSlice whole) (sym r.1.0)
            (never_closed q.1.first.blanks q.1.rest (behind ∙ ap (λ (n : ℕ). q.1.first.blanks ++ (n ∷ q.1.rest)) (eqb-true q.0 123 r.0)) q.1.first.blank r.1.1)
        | inr r ↦ subst (ErrorInSlice whole) (sym r.1) (other_byte q.1.first.blanks q.1.rest q.0 behind q.1.first.blank q.1.first.other (eqb-false q.0 123 r.0))
      ]
]

pub slices_agree : Agrees UnexpectedEnd slice_at Slice ErrorInSlice
unfolding slice_at
slices_agree = agrees_too (λ bytes. refl) (λ bytes slice small p. slice_to bytes slice p) slice_from (λ bytes c small p. slice_errors bytes c p)
    (in_turn {b = braced_at} blanks_agree (λ b. chosen (eqb b 123) (rests_agree (123 ∷ [])) (nothing_stands LegacyJson (λ e. cc))))

-- ---- what is read of malformed bytes

then_braced : (whole rest : List ℕ) (b : ℕ) → nonblank_at whole ≡ Ok (b, rest) → slice_at whole ≡ braced_at b rest
unfolding slice_at
then_braced whole rest b e = ap (λ r. r >>= λ x. braced_at x.0 x.1) e

then_ended : (whole : List ℕ) → nonblank_at whole ≡ Err (UnexpectedEnd, []) → slice_at whole ≡ Err (UnexpectedEnd, [])
unfolding slice_at
then_ended whole e = ap (λ r. r >>= λ x. braced_at x.0 x.1) e

other_braced : (b : ℕ) (rest : List ℕ) → b ≢ 123 → braced_at b rest ≡ Err (LegacyJson, rest)
other_braced b rest other = rw (ne_eqb b 123 other) refl

pub slice_refused : (whole : List ℕ) (c : Cause) → ErrorInSlice whole c → (rest : List ℕ) × (slice_at whole ≡ Err (c, rest))
slice_refused whole c (no_byte all) = ([], then_ended whole (only_blank whole all))
slice_refused whole c (never_closed blanks rest joined all none) =
    ([], then_braced whole rest 123 (ap nonblank_at joined ∙ skips blanks rest 123 all brace_no_blank) ∙ never (123 ∷ []) rest none)
slice_refused whole c (other_byte blanks rest b joined all other brace) =
    (rest, then_braced whole rest b (ap nonblank_at joined ∙ skips blanks rest b all other) ∙ other_braced b rest brace)

-- no prefix of them is closed
pub never_closes : (rest : List ℕ) → Never (123 ∷ []) rest → (slice more : List ℕ) → 123 ∷ rest ≡ slice ++ more → ¬ (IsClosed slice)
never_closes rest none slice more e h =
    let both : 123 ∷ rest ≡ 123 ∷ (h.more ++ more) = e ∙ ap (λ (l : List ℕ). l ++ more) h.opens in
    let left : rest ≡ h.more ++ more = cc in
    let found = (rests_agree (123 ∷ [])).complete h.more slice more (closed_to slice h) in
    absurd (Rattle.tv_base.proofs.Agrees.no_ok _ _ (sym (never (123 ∷ []) rest none) ∙ ap (rest_at (123 ∷ [])) left ∙ found))

pub closes_never : (rest : List ℕ) → ((slice more : List ℕ) → 123 ∷ rest ≡ slice ++ more → ¬ (IsClosed slice)) → Prefix (Until (123 ∷ [])) rest ⊎ Never (123 ∷ []) rest → Never (123 ∷ []) rest
closes_never rest none (inl f) =
    let is = (until_first (123 ∷ []) f.prefix f.value f.encoded).is in
    absurd (none f.value f.rest (ap (λ (l : List ℕ). 123 ∷ l) f.joined ∙ ap (λ (l : List ℕ). l ++ f.rest) (sym is)) (closed_from f.prefix f.value f.encoded))
closes_never rest none (inr h) = h
