-- The bytes of a pair: what is read of them is the pair, and no other.
use Rattle.std.proofs.Common.{◌≡◌, ◌≢◌, ℕ, zero, suc, ◌+◌, ◌*◌, ◌/◌, ◌%◌, ◌^◌, ◌<◌, true, List, [], ◌∷◌, ◌++◌, length, Some, None, Result, Ok, Err, refl, sym, ap, subst, ◌∙◌, arith, length-append, inl, inr}
use Rattle.std.proofs.lemmas.List.{append_cancel_left}
use Rattle.tv_base.specs.ErrorInPart.{ErrorInBytes, InThen}
use Rattle.tv_base.specs.Number.{Fixed, no_bytes, low_byte, low_bytes, eight_bytes}
use Rattle.tv_base.specs.Reading.{bytes_at, more_at, u64_at}
use Rattle.tv_base.specs.Source.{AllBytes, Failures}
use Rattle.tv_base.specs.Stop.{◌>>=◌, Stops, Takes}
use Rattle.tv_base.specs.Stop.Stop.{InputError}
use Rattle.tv_base.specs.Take.{MayStop, MayStopLean, TakesBy, read_stop}
use Rattle.tv_base.specs.declared.cause.Cause.{Cause}
use Rattle.tv_base.specs.declared.cause.Cause.TheVariants.{UnexpectedEnd, TooLong}
use Rattle.tv_base.specs.declared.cause.ReadError.{ReadError}
use Rattle.tv_base.specs.declared.cause.ReadError.TheVariants.{Corrupted, Io, Memory}
use Rattle.tv_base.specs.declared.source.ByteSource.{Ghosts}
use Rattle.tv_base.proofs.Agrees.{Agrees, InTurn, agrees_too, in_turn, made, no_ok, one_encoding}
use Rattle.tv_base.proofs.AgreeWidths.{AreBytes, bytes_agree, bytes_error, u64_agrees}
use Rattle.tv_base.proofs.Numbers.{fixed_fits, low_bytes_encode}
use Rattle.tv_base.proofs.Chunks.{start}
use Rattle.tv_base.proofs.TakeSteps.{SoFar, SoFar-fails, SoFar-returns, SoFar-start, SoFar-step, lean, read_ok}
use Rattle.tv_lines.specs.TermRuns.{FitsRun, Pair, RefusesRun, TakesPair, pair_at, pair_bytes}
use Rattle.tv_store.specs.Blocks.{NextOf}

-- ---- numbers

low_is : (k : ℕ) (bytes : List ℕ) (n : ℕ) → Fixed k bytes n → bytes ≡ low_bytes k n
low_is zero bytes n no_bytes = refl
low_is (suc k) bytes n (low_byte {b = b} {high = high} {bytes = others} small f) =
    let low : (b + 256 * high) % 256 ≡ b = omega arith in
    let above : (b + 256 * high) / 256 ≡ high = omega arith in
    let rest = low_is k others high f in
    rw (low, above) (ap (λ (l : List ℕ). b ∷ l) rest)

eight_is : (bytes : List ℕ) (n : ℕ) → Fixed 8 bytes n → bytes ≡ eight_bytes n
unfolding eight_bytes
eight_is bytes n f = low_is 8 bytes n f

eight_encodes : (n : ℕ) → n < 2 ^ 64 → Fixed 8 (eight_bytes n) n
unfolding eight_bytes
eight_encodes n h = low_bytes_encode 8 n h

pub some_bytes : (p : Pair) (rest : List ℕ) → [] ≢ pair_bytes p ++ rest
unfolding eight_bytes
some_bytes p rest e = absurd cc

-- ---- the grammar

abbrev EncodesPair : List ℕ → Pair → Type 0
EncodesPair bytes p = FitsRun p × (bytes ≡ pair_bytes p)

abbrev InParts : List ℕ → Pair → Type 0
InParts = InTurn (Fixed 8) (λ len. InTurn (AreBytes len) (λ (term : List ℕ) (bytes : List ℕ) (p : Pair). (n : ℕ) × Fixed 8 bytes n × (p ≡ (term, n))))

from_parts : (bytes : List ℕ) (p : Pair) → AllBytes bytes → InParts bytes p → EncodesPair bytes p
from_parts bytes p small h =
    let len = h.0 in
    let term = h.1.second in
    let count = term.1.second in
    let size : h.1.prefix ≡ eight_bytes len = eight_is h.1.prefix len h.1.first in
    let last : term.1.rest ≡ eight_bytes count.0 = eight_is term.1.rest count.0 count.1 in
    let content : term.0 ≡ term.1.prefix = term.1.first.1 in
    let long : length term.0 ≡ len = ap length content ∙ term.1.first.0 in
    let len_fits : len < 2 ^ 64 = fixed_fits h.1.first in
    let count_fits : count.0 < 2 ^ 64 = fixed_fits count.1 in
    let fits : length term.0 < 2 ^ 64 = omega arith in
    let whole : bytes ≡ eight_bytes (length term.0) ++ (term.0 ++ eight_bytes count.0) =
    h.1.joined
    ∙ ap (λ (l : List ℕ). l ++ h.1.rest) (size ∙ ap eight_bytes (sym long))
    ∙ ap (λ (l : List ℕ). eight_bytes (length term.0) ++ l) (term.1.joined ∙ ap (λ (l : List ℕ). l ++ term.1.rest) (sym content) ∙ ap (λ (l : List ℕ). term.0 ++ l) last)
    in
    let there : EncodesPair bytes (term.0, count.0) = ((fits, count_fits), whole) in
    subst (EncodesPair bytes) (sym count.2) there

in_parts : (bytes : List ℕ) (p : Pair) → EncodesPair bytes p → InParts bytes p
in_parts bytes p h = (
  length p.0,
  record {
    prefix = eight_bytes (length p.0);
    rest = p.0 ++ eight_bytes p.1;
    joined = h.1;
    first = eight_encodes (length p.0) h.0.0;
    second = (p.0, record { prefix = p.0; rest = eight_bytes p.1; joined = refl; first = (refl, refl); second = (p.1, eight_encodes p.1 h.0.1, refl) });
  },
)

abbrev ErrorInParts : List ℕ → Cause → Type 0
ErrorInParts = InThen (ErrorInBytes 8) (Fixed 8) (λ len. InThen (ErrorInBytes len) (AreBytes len) (λ _. ErrorInBytes 8))

ends : (bytes : List ℕ) (c : Cause) → AllBytes bytes → ErrorInParts bytes c → c ≡ UnexpectedEnd
ends bytes c small h = elim h [
  | inl q ↦ (bytes_error 8 bytes c q).0
  | inr q ↦ elim q.1.second [
    | inl r ↦ (bytes_error q.0 q.1.rest c r).0
    | inr r ↦ (bytes_error 8 r.1.rest c r.1.second).0
  ]
]

pub pair_agrees : Agrees UnexpectedEnd pair_at EncodesPair (λ bytes c. c ≡ UnexpectedEnd)
unfolding pair_at
pair_agrees = agrees_too (λ bytes. refl) from_parts in_parts ends (in_turn u64_agrees (λ len. in_turn (bytes_agree len) (λ (term : List ℕ). made (λ n. (term, n)) u64_agrees)))

-- bytes begin with one pair at most
pub one_pair : (p q : Pair) (x y : List ℕ) → FitsRun p → FitsRun q → pair_bytes p ++ x ≡ pair_bytes q ++ y → (p ≡ q) × (x ≡ y)
one_pair p q x y p_fits q_fits e =
    let one = one_encoding pair_agrees (pair_bytes p) (pair_bytes q) x y p q (p_fits, refl) (q_fits, refl) e in
    (one.1, append_cancel_left (pair_bytes q) x y (ap (λ (l : List ℕ). l ++ x) (sym one.0) ∙ e))

-- ---- what was taken

module _ {S : Type 0} (source : Ghosts S) (are_bytes : (s : S) → source.is_known s → AllBytes (source.left s)) (old new : S) (taken : ℕ) (term : List ℕ) (known : source.is_known old) where
  -- a pair
  pub pair_taken : (n : ℕ) → TakesBy source old 0 new taken (λ (n : ℕ). (term, n)) (Ok n) pair_at → TakesPair (source.left old) (source.left new) (term, n) (Ok true)
  pair_taken n h =
      let p = pair_agrees.sound (source.left old) ((term, n), source.left new) (are_bytes old known) (read_ok h known) in
      (p.1.0, p.2 ∙ ap (λ (l : List ℕ). l ++ source.left new) p.1.1)

  module _ (e : ReadError) (h : TakesBy source old 0 new taken (λ (n : ℕ). (term, n)) (Err e) pair_at) where
    -- what the end shows
    reads : (c : Cause) → read_stop e ≡ InputError c → pair_at (source.left old) ≡ Err (c, source.left new)
    reads c is =
        let t = h.taken known in
        ap pair_at t.joined ∙ subst (λ s. Stops s pair_at t.prefix (source.left new) taken) is (h.gives known t.prefix t.joined)

    -- nothing
    pub none_taken : (e ≡ Corrupted UnexpectedEnd) × (taken ≡ 0) → (source.left old ≡ []) × (source.left new ≡ [])
    none_taken end =
        let t = h.taken known in
        let nothing : t.prefix ≡ [] = empty t.prefix (omega (arith, t.counted, end.1)) in
        let same : source.left old ≡ source.left new = t.joined ∙ ap (λ (l : List ℕ). l ++ source.left new) nothing in
        let shown = pair_agrees.shown (source.left old) UnexpectedEnd (source.left new) (are_bytes old known) (reads UnexpectedEnd (ap read_stop end.0)) in
        let left : source.left new ≡ [] = shown.all refl in
        (same ∙ left, left)
      where
        empty : (l : List ℕ) → length l ≡ 0 → l ≡ []
        empty [] is = refl
        empty (x ∷ xs) is = absurd (omega (arith, is))

    -- something that is no pair
    pub refused : (c : Cause) → e ≡ Corrupted c → (c ≡ UnexpectedEnd → 0 < taken) → RefusesRun (source.left old) (Corrupted c)
    refused UnexpectedEnd is some =
        let t = h.taken known in
        let read = reads UnexpectedEnd (ap read_stop is) in (
          λ none. omega (arith, some refl, t.counted, ap length (sym t.joined ∙ none), length-append t.prefix (source.left new)),
          λ p rest fits begins. no_ok (UnexpectedEnd, source.left new) (p, rest) (sym read ∙ ap pair_at begins ∙ pair_agrees.complete (pair_bytes p) p rest (fits, refl)),
        )
    refused TooLong is some =
        let t = h.taken known in
        let most = (subst (λ s. Stops s pair_at t.prefix (source.left new) taken) (ap read_stop is) (h.gives known t.prefix t.joined)).0 in
        omega (arith, most, t.counted, ap length t.joined, length-append t.prefix (source.left new))
    refused c is some =
        let end = pair_agrees.refused (source.left old) c (source.left new) (are_bytes old known) (reads c (ap read_stop is)) in
        absurd cc

    pub pair_refused : (error : ReadError) → error ≡ e → (e ≡ Corrupted UnexpectedEnd → 0 < taken) → RefusesRun (source.left old) error
    pair_refused (Corrupted c) is some = refused c (sym is) (λ end. some (sym is ∙ ap (λ (x : Cause). Corrupted x) end))
    pair_refused (Io kind) is some = tt
    pair_refused Memory is some = tt

  -- and what that says of whether there was one
  pub more_refused : (read : Result ℕ ReadError) (error : ReadError) → TakesBy source old 0 new taken (λ (n : ℕ). (term, n)) read pair_at → NextOf (Corrupted UnexpectedEnd) read taken (Err error) → RefusesRun (source.left old) error
  more_refused (Ok n) error h more = absurd (cc (more))
  more_refused (Err e) error h more = pair_refused e h error more.0 more.1

  pub more_none : (read : Result ℕ ReadError) → TakesBy source old 0 new taken (λ (n : ℕ). (term, n)) read pair_at → NextOf (Corrupted UnexpectedEnd) read taken (Ok None) → (source.left old ≡ []) × (source.left new ≡ [])
  more_none (Ok n) h more = absurd (cc (more))
  more_none (Err e) h more = none_taken e h more

  pub more_some : (read : Result ℕ ReadError) (count : ℕ) → TakesBy source old 0 new taken (λ (n : ℕ). (term, n)) read pair_at → NextOf (Corrupted UnexpectedEnd) read taken (Ok (Some count)) → TakesPair (source.left old) (source.left new) (term, count) (Ok true)
  more_some (Ok n) count h more =
      let same : n ≡ count = cc (more) in
      let P : ℕ → Type 0 = λ m. TakesPair (source.left old) (source.left new) (term, m) (Ok true) in
      subst P same (pair_taken n h)
  more_some (Err e) count h more = absurd more

-- ---- the parts of a pair, taken one after the other

abbrev count_behind : List ℕ → ℕ × List ℕ → Result (Pair × List ℕ) (Cause × List ℕ)
count_behind term count = Ok ((term, count.0), count.1)

abbrev term_behind : List ℕ × List ℕ → Result (Pair × List ℕ) (Cause × List ℕ)
term_behind term = u64_at term.1 >>= count_behind term.0

-- `nothing` is what the term's room held
same_term : (nothing : List ℕ) (len : ℕ) → nothing ≡ [] → (w : List ℕ) → (bytes_at len w >>= term_behind) ≡ (more_at nothing len w >>= term_behind)
same_term nothing len none w = ap (λ r. r >>= term_behind) (start len w ∙ ap (λ (p : List ℕ). more_at p len w) (sym none))

module _ {P : Type 0} {is_known : P → Type 0} {left : P → List ℕ} {count : P → ℕ} {failures : P → Failures} where
  pub length_taken : {a b : P} {len : ℕ} → Takes read_stop MayStopLean is_known left count failures a b (λ x. x) (Ok len) u64_at → SoFar is_known left count failures a b pair_at (λ w. bytes_at len w >>= term_behind)
  unfolding pair_at
  length_taken x = SoFar-step _ (λ _. refl) (SoFar-start _ _ _ _ _ pair_at pair_at (λ _. refl)) x

  pub length_fails : {a b : P} (term : List ℕ) (e : ReadError) → Takes {X = ℕ} read_stop MayStopLean is_known left count failures a b (λ x. x) (Err e) u64_at → Takes {X = ℕ} read_stop MayStop is_known left count failures a b (λ n. (term, n)) (Err e) pair_at
  unfolding pair_at
  length_fails term e x = SoFar-fails (λ (n : ℕ). (term, n)) e (λ len. bytes_at len.0 len.1 >>= term_behind) (λ _. refl) (SoFar-start _ _ _ _ _ pair_at pair_at (λ _. refl)) (lean x)

  pub term_taken : {X : Type 0} {x : X} {a b c : P} (len : ℕ) {nothing term : List ℕ} → nothing ≡ [] → SoFar is_known left count failures a b pair_at (λ w. bytes_at len w >>= term_behind) → Takes read_stop MayStop is_known left count failures b c (λ (_ : X). term) (Ok x) (more_at nothing len)
      → SoFar is_known left count failures a c pair_at (λ w. u64_at w >>= count_behind term)
  term_taken len {nothing = nothing} none h read = SoFar-step term_behind (same_term nothing len none) h read

  pub term_fails : {X : Type 0} {a b c : P} (len : ℕ) {nothing : List ℕ} (other term : List ℕ) (e : ReadError) → nothing ≡ [] → SoFar is_known left count failures a b pair_at (λ w. bytes_at len w >>= term_behind) → Takes {X = X} read_stop MayStop is_known left count failures b c (λ (_ : X). other) (Err e) (more_at nothing len)
      → Takes {X = ℕ} read_stop MayStop is_known left count failures a c (λ n. (term, n)) (Err e) pair_at
  term_fails len {nothing = nothing} other term e none h x = SoFar-fails (λ (n : ℕ). (term, n)) e term_behind (same_term nothing len none) h x

  pub count_taken : {a b c : P} (term : List ℕ) (result : Result ℕ ReadError) → SoFar is_known left count failures a b pair_at (λ w. u64_at w >>= count_behind term) → Takes read_stop MayStopLean is_known left count failures b c (λ x. x) result u64_at
      → Takes read_stop MayStop is_known left count failures a c (λ n. (term, n)) result pair_at
  count_taken term (Ok n) h x = SoFar-returns read_stop (λ (n : ℕ). (term, n)) n (λ _. refl) (SoFar-step (count_behind term) (λ _. refl) h x)
  count_taken term (Err e) h x = SoFar-fails (λ (n : ℕ). (term, n)) e (count_behind term) (λ _. refl) h (lean x)
