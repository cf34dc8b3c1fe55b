-- Bytes that a source appends piece by piece.
use Rattle.std.proofs.Common.{◌≡◌, ℕ, ◌+◌, ◌-◌, ◌<◌, ◌≤◌, List, [], ◌∷◌, ◌++◌, length, Result, Ok, Err, refl, sym, ap, ◌∙◌, arith, append_assoc}
use Rattle.tv_base.specs.declared.cause.Cause.{Cause}
use Rattle.tv_base.specs.declared.cause.Cause.TheVariants.{UnexpectedEnd}
use Rattle.tv_base.specs.declared.cause.ReadError.TheVariants.{Corrupted}
use Rattle.tv_base.specs.Append.{Moves}
use Rattle.tv_base.specs.Source.{Failures}
use Rattle.tv_base.specs.Stop.{◌>>=◌, Taken, Takes}
use Rattle.tv_base.specs.Take.{read_stop, MayStop}
use Rattle.tv_base.specs.Reading.{more_at}
use Rattle.tv_base.proofs.AgreeWidths.{more_agrees}
use Rattle.tv_base.proofs.Chunks.{chunk, short}
use Rattle.tv_base.proofs.TakeSteps.{SoFar, Taken_then, both_taken}

moved_read : (before moved rest : List ℕ) (missing n : ℕ) → n ≤ missing → length moved ≡ n → more_at before missing (moved ++ rest) ≡ more_at (before ++ moved) (missing - n) rest
moved_read before moved rest missing n le len =
    chunk before missing n le (moved ++ rest) ∙ ap (λ r. r >>= λ x. more_at x.0 (missing - n) x.1) ((more_agrees before n).complete moved (before ++ moved) rest (moved, (len, refl), refl))

pub none_left : (before bytes : List ℕ) (missing : ℕ) → 0 < missing → bytes ≡ [] → more_at before missing bytes ≡ Err (UnexpectedEnd, [])
none_left before bytes missing some none = ap (more_at before missing) none ∙ ap (λ r. r >>= λ x. Ok (before ++ x.0, x.1)) (short missing [] some)

moved_taken : {old new before after : List ℕ} {most n count now : ℕ} → now ≡ count + n → Moves old new before after most n → Taken old new count now
moved_taken counted m = record { prefix = m.moved; joined = m.joined; counted = omega (arith, counted, m.count) }

module _ {P : Type 0} {is_known : P → Type 0} {left : P → List ℕ} {count : P → ℕ} {failures : P → Failures} {old mid new : P} {whole : List ℕ → Result (List ℕ × List ℕ) (Cause × List ℕ)} where
  -- a piece was appended
  pub piece_taken : (before after : List ℕ) (missing most n : ℕ) → n ≤ missing → SoFar is_known left count failures old mid whole (more_at before missing)
      → (is_known mid → Moves (left mid) (left new) before after most n) → (is_known mid → is_known new) → failures new ≡ failures mid → count new ≡ count mid + n → SoFar is_known left count failures old new whole (more_at after (missing - n))
  piece_taken before after missing most n le h moves still same counted = record {
    goes = λ told taken joined behind.
        let t = h.taken told in
        let m = moves (h.stays_known told) in
        ap (λ (l : List ℕ). whole (l ++ behind)) (both_taken t.prefix m.moved taken (left new) t.joined m.joined joined)
        ∙ ap whole (append_assoc t.prefix m.moved behind)
        ∙ h.goes told t.prefix t.joined (m.moved ++ behind)
        ∙ moved_read before m.moved behind missing n le m.count
        ∙ ap (λ (l : List ℕ). more_at l (missing - n) behind) (sym m.behind);
    taken = λ told. Taken_then (h.taken told) (moved_taken counted (moves (h.stays_known told)));
    stays_known = λ told. still (h.stays_known told);
    counts = same ∙ h.counts;
    count_grows = omega (arith, h.count_grows, counted);
  }

  -- no byte is left
  pub piece_ends : {X : Type 0} (view : X → List ℕ) (before after : List ℕ) (missing most n : ℕ) → n ≡ 0 → 0 < missing → 0 < most → SoFar is_known left count failures old mid whole (more_at before missing)
      → (is_known mid → Moves (left mid) (left new) before after most n) → (is_known mid → is_known new) → failures new ≡ failures mid → count new ≡ count mid → Takes read_stop MayStop is_known left count failures old new view (Err (Corrupted UnexpectedEnd)) whole
  piece_ends view before after missing most n zero some wanted h moves still same counted = record {
    gives = λ told taken joined.
        let t = h.taken told in
        let m = moves (h.stays_known told) in
        let none : left mid ≡ [] = m.end zero wanted in
        ap whole (sym joined ∙ t.joined) ∙ h.goes told t.prefix t.joined (left mid) ∙ none_left before (left mid) missing some none ∙ ap (λ (l : List ℕ). Err (UnexpectedEnd, l)) (sym (nothing_new (m.moved) (left new) (sym none ∙ m.joined)));
    taken = λ told. Taken_then (h.taken told) (moved_taken (omega (arith, counted, zero)) (moves (h.stays_known told)));
    stays_known = λ told. still (h.stays_known told);
    counts = same ∙ h.counts;
    count_grows = omega (arith, h.count_grows, counted);
    may_stop = tt;
  }
    where
      nothing_new : (a b : List ℕ) → [] ≡ a ++ b → b ≡ []
      nothing_new [] b e = sym e
      nothing_new (x ∷ a) b e = absurd cc
