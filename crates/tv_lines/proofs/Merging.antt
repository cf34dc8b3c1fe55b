-- Several runs, and what is taken from each.
use Rattle.std.proofs.Common.{◌≡◌, ◌≢◌, ℕ, suc, ◌+◌, ◌-◌, ◌^◌, ◌<◌, ◌≤◌, min, Bool, true, false, List, [], ◌∷◌, ◌++◌, length, take, get_or, set, Option, Some, None, Ok, Err, refl, sym, ap, subst, ◌∙◌, arith, length-append, length-set, zero-add, get_or-set_same, get_or-set_other, inl, inr, if◌then◌else◌, sum_by, All, Any, nat_eq}
use Rattle.std.proofs.lemmas.Bool.{cases_eq, cases_lt}
use Rattle.std.proofs.lemmas.Cmp.{tied_itself, upto}
use Rattle.std.proofs.lemmas.List.{get_or_append_left, get_or_default, get_or-map, get_or_push, length-map, length_push, take_all, take_more}
use Rattle.std.proofs.lemmas.List.Elements.{All-from_get_or, All-cons, All-head, All-map, All-nil, All-push, All-set, All-tail, All-weaker}
use Rattle.std.proofs.lemmas.List.Quantifiers.{Any-push}
use Rattle.std.proofs.lemmas.List.Sums.{sum_by-append}
use Rattle.std.specs.Cmp.Lexicographic.{bytes_decides, nat_list_cmp_total, pointwise, slice_cmp}
use Rattle.std.specs.FinMap.{nat_cmp-IsAntisymmetric, slice_cmp-IsAntisymmetric}
use Rattle.std.specs.Ordering.{is_gt, nat_cmp, ordering_reverse}
use Rattle.std.specs.declared.cmp.Ordering.{Ordering}
use Rattle.std.specs.declared.cmp.Ordering.TheVariants.{Less, Equal, Greater}
use Rattle.tv_base.specs.declared.cause.Cause.{Cause}
use Rattle.tv_base.specs.declared.cause.Cause.TheVariants.{UnexpectedEnd, TooLong}
use Rattle.tv_base.specs.declared.cause.ReadError.{ReadError}
use Rattle.tv_base.specs.declared.cause.ReadError.TheVariants.{Corrupted, Io, Memory}
use Rattle.tv_base.specs.declared.source.ByteSource.{Ghosts}
use Rattle.tv_lines.proofs.RunPairs.{one_pair, some_bytes}
use Rattle.tv_lines.specs.TermRuns.{BeginsWith, BeginsWithNoneBefore, FitsRun, HasLeft, HaveLeft, IsAfter, IsAtMost, IsLeast, IsLeastRead, IsLesser, IsOfReading, IsSortedRun, IsRun, NoneFails, Pair, RefusesRun, RisesOn, TakesFrom, TakesFromEach, TakesPair, count_of, is_of, pair_of, run_bytes, without}
use Rattle.tv_lines.specs.declared.term_runs.RunReader.{RunReader}

-- ---- one run

pub no_pair : (bytes : List ℕ) (pairs : List Pair) → IsRun bytes pairs → RefusesRun bytes (Corrupted UnexpectedEnd) → ⊥
no_pair bytes [] run h = h.0 run.1
no_pair bytes (p ∷ ps) run h = h.1 p (run_bytes ps) (All-head FitsRun p ps run.0) run.1

cause_of_reading : (bytes : List ℕ) (pairs : List Pair) (c : Cause) → IsRun bytes pairs → RefusesRun bytes (Corrupted c) → IsOfReading (Corrupted c)
cause_of_reading bytes pairs UnexpectedEnd run h = absurd (no_pair bytes pairs run h)
cause_of_reading bytes pairs TooLong run h = tt
cause_of_reading bytes pairs _ run h = absurd h

of_reading : (bytes : List ℕ) (pairs : List Pair) (e : ReadError) → IsRun bytes pairs → RefusesRun bytes e → IsOfReading e
of_reading bytes pairs (Corrupted c) run h = cause_of_reading bytes pairs c run h
of_reading bytes pairs (Io kind) run h = tt
of_reading bytes pairs Memory run h = tt

module _ {S : Type 0} (source : Ghosts S) where
  -- the next pair was read
  pub next_left : (r : RunReader S) (bytes : List ℕ) (pairs : List Pair) (more : Bool) → IsRun bytes pairs → TakesPair bytes (source.left r.source) (pair_of r) (Ok more) → r.has_pair ≡ more → HasLeft source r pairs
  next_left r bytes [] true run takes has = absurd (some_bytes (pair_of r) (source.left r.source) (sym run.1 ∙ takes.1))
  next_left r bytes [] false run takes has = (has, takes.1)
  next_left r bytes (p ∷ ps) true run takes has =
      let one = one_pair (pair_of r) p (source.left r.source) (run_bytes ps) takes.0 (All-head FitsRun p ps run.0) (sym takes.1 ∙ run.1) in
      (has, one.0, (All-tail FitsRun p ps run.0, one.1))
  next_left r bytes (p ∷ ps) false run takes has = absurd (some_bytes p (run_bytes ps) (sym takes.0 ∙ run.1))

  -- the term was read, and then the next
  pub taken : (term : List ℕ) (old new : RunReader S) (pairs : List Pair) (more : Bool) → HasLeft source old pairs → old.has_pair ≡ true → pointwise nat_eq old.term.items term ≡ true
      → TakesPair (source.left old.source) (source.left new.source) (pair_of new) (Ok more) → new.has_pair ≡ more → TakesFrom source term new pairs (Ok old.count)
  taken term old new [] more h has same takes now = absurd (cc (h.0, has))
  taken term old new (p ∷ ps) more h has same takes now =
      let is : is_of term p ≡ true = ap (λ (q : Pair). is_of term q) (sym h.1) ∙ same in
      let P : Bool → Type 0 = λ b. (old.count ≡ (if b then p.1 else 0)) × HasLeft source new (if b then ps else p ∷ ps) in
      subst P (sym is) (ap (λ (q : Pair). q.1) h.1, next_left new (source.left old.source) ps more h.2 takes now)

  pub taken_error : (old : RunReader S) (pairs : List Pair) (e : ReadError) → HasLeft source old pairs → old.has_pair ≡ true → RefusesRun (source.left old.source) e → IsOfReading e
  taken_error old [] e h has refuses = absurd (cc (h.0, has))
  taken_error old (p ∷ ps) e h has refuses = of_reading (source.left old.source) ps e h.2 refuses

-- ---- the least term

any_before : {X : Type 0} (P : X → Type 0) (xs ys : List X) → Any P xs → Any P (xs ++ ys)
any_before P xs ys h = (h.0, h.1, omega (arith, h.2, length-append xs ys), get_or_append_left xs ys h.1 h.0 h.2 ∙ h.3, h.4)

pub at_most_itself : (a b : List ℕ) → a ≡ b → IsAtMost a b
at_most_itself a b e = let P : List ℕ → Type 0 = λ c. IsAtMost a c in subst P e (ap is_gt (tied_itself nat_list_cmp_total a))

pub not_after : (a b : List ℕ) → Greater ≡ slice_cmp nat_cmp a b → IsAtMost b a
not_after a b e = ap is_gt (nat_list_cmp_total.antisymm b a ∙ ap ordering_reverse (sym e))

pub not_greater : (a b : List ℕ) (o : Ordering) → o ≡ slice_cmp nat_cmp a b → (o ≡ Greater → ⊥) → IsAtMost a b
not_greater a b Less e other = ap is_gt (sym e)
not_greater a b Equal e other = ap is_gt (sym e)
not_greater a b Greater e other = absurd (other refl)

module _ {S : Type 0} (readers : List (RunReader S)) (r : RunReader S) where
  pub least_skips : (least : Option (List ℕ)) → r.has_pair ≡ false → IsLeastRead readers least → IsLeastRead (readers ++ r ∷ []) least
  least_skips None has h = All-push (λ (x : RunReader S). x.has_pair ≡ false) readers r h has
  least_skips (Some term) has h = (any_before _ readers (r ∷ []) h.0, All-push (λ (x : RunReader S). x.has_pair ≡ true → IsAtMost term x.term.items) readers r h.1 (λ is. absurd (cc (is, has))))

  pub least_takes : (least : Option (List ℕ)) (now : List ℕ) → r.has_pair ≡ true → IsLesser least r.term.items now → IsAtMost now r.term.items → IsLeastRead readers least → IsLeastRead (readers ++ r ∷ []) (Some now)
  least_takes None now has lesser at_most h = (
    Any-push _ readers r (has, sym lesser),
    All-push (λ (x : RunReader S). x.has_pair ≡ true → IsAtMost now x.term.items) readers r (All-weaker (λ (x : RunReader S). x.has_pair ≡ false) (λ x. x.has_pair ≡ true → IsAtMost now x.term.items) (λ x not is. absurd (cc (not, is))) readers h) (λ _. at_most),
  )
  least_takes (Some other) now has lesser at_most h = (
    (elim lesser.0 [
      | inl same ↦ any_before _ readers (r ∷ []) (h.0.0, h.0.1, h.0.2, h.0.3, (h.0.4.0, h.0.4.1 ∙ sym same))
      | inr same ↦ Any-push (λ (x : RunReader S). (x.has_pair ≡ true) × (x.term.items ≡ now)) readers r (has, sym same)
    ]),
    All-push (λ (x : RunReader S). x.has_pair ≡ true → IsAtMost now x.term.items) readers r
        (All-weaker (λ (x : RunReader S). x.has_pair ≡ true → IsAtMost other x.term.items) (λ x. x.has_pair ≡ true → IsAtMost now x.term.items) (λ x least is. upto nat_list_cmp_total now other x.term.items lesser.1 (least is)) readers h.1)
        (λ _. at_most),
  )

-- one more reader
pub least_step : {S : Type 0} (readers : List (RunReader S)) (i : ℕ) (r : RunReader S) (now : Option (List ℕ)) → i < length readers → r ≡ get_or readers i r → IsLeastRead (take i readers ++ r ∷ []) now → IsLeastRead (take (i + 1) readers) now
least_step {S} readers i r now within is h =
    let P : List (RunReader S) → Type 0 = λ l. IsLeastRead l now in
    subst P (sym (take_more readers i r within ∙ ap (λ (x : RunReader S). take i readers ++ x ∷ []) (sym is))) h

-- ---- and the same of what the runs have left

some_element : {X : Type 0} (xs : List X) (k : ℕ) → k < length xs → X
some_element [] k h = absurd (omega (arith, h))
some_element (x ∷ xs) k h = x

module _ {S : Type 0} (source : Ghosts S) where
  none_left : (r : RunReader S) (pairs : List Pair) → HasLeft source r pairs → r.has_pair ≡ false → pairs ≡ []
  none_left r [] h has = refl
  none_left r (p ∷ ps) h has = absurd (cc (h.0, has))

  begins_with : (r : RunReader S) (pairs : List Pair) (term : List ℕ) → HasLeft source r pairs → r.has_pair ≡ true → r.term.items ≡ term → BeginsWith term pairs
  begins_with r [] term h has is = absurd (cc (h.0, has))
  begins_with r (p ∷ ps) term h has is = ap (λ (q : Pair). q.0) (sym h.1) ∙ is

  begins_with_none : (r : RunReader S) (pairs : List Pair) (term : List ℕ) → HasLeft source r pairs → (r.has_pair ≡ true → IsAtMost term r.term.items) → BeginsWithNoneBefore term pairs
  begins_with_none r [] term h least = tt
  begins_with_none r (p ∷ ps) term h least = let P : Pair → Type 0 = λ q. IsAtMost term q.0 in subst P h.1 (least h.0)

  module _ (readers : List (RunReader S)) (runs : List (List Pair)) (h : HaveLeft source readers runs) where
    pub all_taken : IsLeastRead readers None → All (λ (pairs : List Pair). pairs ≡ []) runs
    all_taken none = All-from_get_or (λ (pairs : List Pair). pairs ≡ []) runs [] (λ k lt.
        let within : k < length readers = omega (arith, lt, h.as_many) in
        let d = some_element readers k within in
        none_left (get_or readers k d) (get_or runs k []) (h.each k d within) (none k d within))

    pub least_begins : (term : List ℕ) → IsLeastRead readers (Some term) → IsLeast term runs
    least_begins term least =
        let k = least.0.0 in
        let r = least.0.1 in
        let within : k < length runs = omega (arith, least.0.2, h.as_many) in
        let here : HasLeft source r (get_or runs k []) = subst (λ (x : RunReader S). HasLeft source x (get_or runs k [])) least.0.3 (h.each k r least.0.2) in
        record {
          begins = (k, get_or runs k [], within, get_or_default runs k (get_or runs k []) [] within, begins_with r (get_or runs k []) term here least.0.4.0 least.0.4.1);
          least = All-from_get_or (BeginsWithNoneBefore term) runs [] (λ j lt.
              let near : j < length readers = omega (arith, lt, h.as_many) in
              begins_with_none (get_or readers j r) (get_or runs j []) term (h.each j r near) (least.1 j r near));
        }

-- ---- the order of what is left

tail_rises : (p : Pair) (ps : List Pair) → IsSortedRun (p ∷ ps) → IsSortedRun ps
tail_rises p ps h i j d lt within = h (suc i) (suc j) d (omega (arith, lt)) (omega (arith, within))

after_head : (p : Pair) (ps : List Pair) → IsSortedRun (p ∷ ps) → IsAfter p.0 ps
after_head p ps h k d lt = h 0 (suc k) d (omega arith) (omega (arith, lt))

less_of : (a b : List ℕ) → IsAtMost a b → pointwise nat_eq b a ≡ false → slice_cmp nat_cmp a b ≡ Less
less_of a b at_most other =
    elim (slice_cmp nat_cmp a b) as (λ (o : Ordering). slice_cmp nat_cmp a b ≡ o → is_gt o ≡ false → o ≡ Less) [
      | Less ↦ λ is below. refl
      | Equal ↦ λ is below.
          let same : a ≡ b = slice_cmp-IsAntisymmetric nat_cmp-IsAntisymmetric a b is in
          let not : pointwise nat_eq b a ≡ true = (bytes_decides b a).1 (sym same) in
          absurd (cc (not, other))
      | Greater ↦ λ is below. absurd (cc (below))
    ] refl at_most

after_taken : (term : List ℕ) (pairs : List Pair) → IsSortedRun pairs → BeginsWithNoneBefore term pairs → IsSortedRun (without term pairs) × IsAfter term (without term pairs)
after_taken term [] rises least = (rises, All-nil (λ (p : Pair). slice_cmp nat_cmp term p.0 ≡ Less))
after_taken term (p ∷ ps) rises least =
    elim (is_of term p) as (λ b. is_of term p ≡ b → IsSortedRun (if b then ps else p ∷ ps) × IsAfter term (if b then ps else p ∷ ps)) [
      | true ↦ λ is.
          let same : p.0 ≡ term = (bytes_decides p.0 term).0 is in
          let P : List ℕ → Type 0 = λ t. IsAfter t ps in
          (tail_rises p ps rises, subst P same (after_head p ps rises))
      | false ↦ λ other.
          let less : slice_cmp nat_cmp term p.0 ≡ Less = less_of term p.0 least other in (
            rises,
            All-cons (λ (q : Pair). slice_cmp nat_cmp term q.0 ≡ Less) p ps less
                (All-weaker (λ (q : Pair). slice_cmp nat_cmp p.0 q.0 ≡ Less) (λ q. slice_cmp nat_cmp term q.0 ≡ Less) (λ q after. nat_list_cmp_total.trans term p.0 q.0 less after) ps (after_head p ps rises)),
          )
    ] refl

pub rises_on : (term : List ℕ) (runs : List (List Pair)) → All (BeginsWithNoneBefore term) runs → RisesOn term runs
rises_on term runs least rises = All-map (λ (pairs : List Pair). IsSortedRun pairs × IsAfter term pairs) (without term) runs (λ k d lt. after_taken term (get_or runs k d) (rises k d lt) (least k d lt))

-- ---- a term is taken from each

-- from the first runs it was taken, and from the others not yet
pub record TakenSoFar {S : Type 0} (source : Ghosts S) (term : List ℕ) (readers : List (RunReader S)) (runs : List (List Pair)) (number total : ℕ) : Type 0 where
  pub as_many : length runs ≡ length readers
  pub known : All (λ r. source.is_known r.source) readers
  pub done : (k : ℕ) (d : RunReader S) → k < number → HasLeft source (get_or readers k d) (without term (get_or runs k []))
  pub ahead : (k : ℕ) (d : RunReader S) → number ≤ k → k < length readers → HasLeft source (get_or readers k d) (get_or runs k [])
  pub counted : total ≡ min (sum_by (count_of term) (take number runs)) (2 ^ 64 - 1)

module _ {S : Type 0} (source : Ghosts S) (term : List ℕ) (readers : List (RunReader S)) (runs : List (List Pair)) where
  pub taken_none : HaveLeft source readers runs → TakenSoFar source term readers runs 0 0
  taken_none h = record { as_many = h.as_many; known = h.known; done = λ k d lt. absurd (omega (arith, lt)); ahead = λ k d le lt. h.each k d lt; counted = refl }

  module _ (number total : ℕ) (h : TakenSoFar source term readers runs number total) where
    pub taken_more : number < length readers → (r : RunReader S) (count sum : ℕ) → source.is_known r.source → TakesFrom source term r (get_or runs number []) (Ok count) → sum ≡ min (total + count) (2 ^ 64 - 1) → TakenSoFar source term (set readers number r) runs (number + 1) sum
    taken_more within r count sum known takes is = record {
      as_many = h.as_many ∙ sym (length-set readers number r);
      known = All-set (λ (x : RunReader S). source.is_known x.source) readers number r known h.known;
      done = λ k d lt. elim (cases_eq k number) [
        | inl same ↦
            let now : get_or (set readers number r) k d ≡ r = ap (λ (j : ℕ). get_or (set readers number r) j d) same ∙ get_or-set_same readers number r d within in
            let P : RunReader S → Type 0 = λ x. HasLeft source x (without term (get_or runs k [])) in
            let Q : ℕ → Type 0 = λ j. HasLeft source r (without term (get_or runs j [])) in
            subst P (sym now) (subst Q (sym same) takes.1)
        | inr other ↦
            let before : k < number = omega (arith, lt, other) in
            let P : RunReader S → Type 0 = λ x. HasLeft source x (without term (get_or runs k [])) in
            subst P (sym (get_or-set_other readers number k r d other)) (h.done k d before)
      ];
      ahead = λ k d le lt.
          let other : k ≢ number = omega (arith, le) in
          let near : k < length readers = omega (arith, lt, length-set readers number r) in
          let P : RunReader S → Type 0 = λ x. HasLeft source x (get_or runs k []) in
          subst P (sym (get_or-set_other readers number k r d other)) (h.ahead k d (omega (arith, le)) near);
      counted =
          let there : number < length runs = omega (arith, within, h.as_many) in
          let more : sum_by (count_of term) (take (number + 1) runs) ≡ sum_by (count_of term) (take number runs) + count_of term (get_or runs number []) =
          ap (sum_by (count_of term)) (take_more runs number [] there) ∙ sum_by-append (count_of term) (take number runs) (get_or runs number [] ∷ []) ∙ ap (λ (n : ℕ). sum_by (count_of term) (take number runs) + n) (zero-add (count_of term (get_or runs number [])))
          in
          omega (arith, is, h.counted, more, takes.0);
    }

    pub taken_all : number ≡ length readers → TakesFromEach source term readers runs (Ok total)
    taken_all all = (
      h.counted ∙ ap (λ (l : List (List Pair)). min (sum_by (count_of term) l) (2 ^ 64 - 1)) (take_all number runs (omega (arith, all, h.as_many))),
      record {
        as_many = length-map runs (without term) ∙ h.as_many;
        known = h.known;
        each = λ k d lt.
            let near : k < length runs = omega (arith, lt, h.as_many) in
            let P : List Pair → Type 0 = λ pairs. HasLeft source (get_or readers k d) pairs in
            subst P (sym (get_or-map (without term) runs k [] [] near)) (h.done k d (omega (arith, lt, all)));
      },
    )

    pub taken_fails : number < length readers → (r : RunReader S) (e : ReadError) → TakesFrom source term r (get_or runs number []) (Err e) → (number < length runs) × IsOfReading e
    taken_fails within r e takes = (omega (arith, within, h.as_many), takes)

-- ---- failures

pub none_more : {S : Type 0} (source : Ghosts S) (old now : List (RunReader S)) (number : ℕ) (r here : RunReader S) → NoneFails source old now → number < length now → source.failures r.source ≡ source.failures (get_or now number here).source → NoneFails source old (set now number r)
none_more {S} source old now number r here none within same k d lt = elim (cases_eq k number) [
  | inl at ↦
      let there : get_or (set now number r) k d ≡ r = ap (λ (j : ℕ). get_or (set now number r) j d) at ∙ get_or-set_same now number r d within in
      let before : get_or now number here ≡ get_or now k d = get_or_default now number here d within ∙ ap (λ (j : ℕ). get_or now j d) (sym at) in
      ap (λ (x : RunReader S). source.failures x.source) there ∙ same ∙ ap (λ (x : RunReader S). source.failures x.source) before ∙ none k d lt
  | inr other ↦ ap (λ (x : RunReader S). source.failures x.source) (get_or-set_other now number k r d other) ∙ none k d lt
]

-- ---- one more run

module _ {S : Type 0} (source : Ghosts S) (readers : List (RunReader S)) (runs : List (List Pair)) (h : HaveLeft source readers runs) where
  pub left_more : (r : RunReader S) (pairs : List Pair) → source.is_known r.source → HasLeft source r pairs → HaveLeft source (readers ++ r ∷ []) (runs ++ pairs ∷ [])
  left_more r pairs known has = record {
    as_many = length_push runs pairs ∙ ap (λ n. n + 1) h.as_many ∙ sym (length_push readers r);
    known = All-push (λ (x : RunReader S). source.is_known x.source) readers r h.known known;
    each = λ k d lt. elim (cases_lt k (length readers)) [
      | inl near ↦
          let P = λ (x : RunReader S). HasLeft source x (get_or (runs ++ pairs ∷ []) k []) in
          let Q : List Pair → Type 0 = λ l. HasLeft source (get_or readers k d) l in
          subst P (sym (get_or_append_left readers (r ∷ []) d k near)) (subst Q (sym (get_or_append_left runs (pairs ∷ []) [] k (omega (arith, near, h.as_many)))) (h.each k d near))
      | inr far ↦
          let at : length readers ≡ k = omega (arith, far, lt, length_push readers r) in
          let P = λ (x : RunReader S). HasLeft source x (get_or (runs ++ pairs ∷ []) k []) in
          let Q : List Pair → Type 0 = λ l. HasLeft source r l in
          subst P (sym (get_or_push readers r d k at)) (subst Q (sym (get_or_push runs pairs [] k (h.as_many ∙ at))) has)
    ];
  }
