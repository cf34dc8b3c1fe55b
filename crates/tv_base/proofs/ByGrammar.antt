-- A reader that gives what a reading gives reads by the grammar that the reading agrees with.
use Rattle.std.proofs.Common.{◌≡◌, ℕ, ◌-◌, ◌^◌, ◌<◌, List, [], ◌++◌, length, Result, Ok, Err, refl, sym, ap, subst, ◌∙◌, arith, length-append}
use Rattle.std.specs.Prelude.{IfOk, IfErr, IsErrOf}
use Rattle.std.proofs.lemmas.Result.{IfErr-at_err}
use Rattle.tv_base.specs.declared.cause.Cause.{Cause}
use Rattle.tv_base.specs.declared.cause.Cause.TheVariants.{UnexpectedEnd, TooLong}
use Rattle.tv_base.specs.declared.cause.ReadError.{ReadError}
use Rattle.tv_base.specs.declared.cause.ReadError.TheVariants.{Corrupted, Io, Memory}
use Rattle.tv_base.specs.Source.{AllBytes}
use Rattle.tv_base.specs.Stop.{Stop, Stops, Gives, Taken}
use Rattle.tv_base.specs.Stop.Stop.{InputError, Uncounted}
use Rattle.tv_base.specs.Take.{TakesBy, TakesLean, MayStopLean, read_stop}
use Rattle.tv_base.specs.declared.source.ByteSource.{Ghosts}
use Rattle.tv_base.specs.Parts.{Begins}
use Rattle.tv_base.specs.ReadsAs.{IsReadUnless, SaysNoCause, Shows, EndsEarly, ReadsAs, ReadsLean}
use Rattle.tv_base.proofs.SmallBytes.{bytes_before}
use Rattle.tv_base.proofs.TakeSteps.{lean}
use Rattle.tv_base.proofs.Agrees.{Agrees, ok_is, no_ok}

found_by : {X Y : Type 0} {reading : List ℕ → Result (Y × List ℕ) (Cause × List ℕ)} {Encodes : List ℕ → Y → Type 0} {HasError : List ℕ → Cause → Type 0} (view : X → Y)
    → Agrees UnexpectedEnd reading Encodes HasError → (bytes taken rest : List ℕ) (count : ℕ) (result : Result X ReadError) → AllBytes bytes → bytes ≡ taken ++ rest → Gives read_stop view result reading taken rest count → IfOk result (λ x. Begins (λ prefix. Encodes prefix (view x)) bytes rest)
found_by {reading = reading} view agrees bytes taken rest count (Ok x) small joined h = let f = agrees.sound bytes (view x, rest) small (ap reading joined ∙ h rest) in record { prefix = f.0; joined = f.2; encoded = f.1 }
found_by view agrees bytes taken rest count (Err e) small joined h = tt

-- what an error that stops the reader says is what is read
stopped_at : {X Y : Type 0} (view : X → Y) (reading : List ℕ → Result (Y × List ℕ) (Cause × List ℕ)) (taken rest : List ℕ) (count : ℕ) (result : Result X ReadError) (e : ReadError) {s : Stop Cause} → IsErrOf result e → read_stop e ≡ s → Gives read_stop view result reading taken rest count → Stops s reading taken rest count
stopped_at view reading taken rest count result e is stops h = subst (λ s. Stops s reading taken rest count) stops (subst (λ r. Gives read_stop view r reading taken rest count) is h)

-- bytes that show an error show it by the grammar
pub shows_by : {F Y : Type 0} {end : F} {reading : List ℕ → Result (Y × List ℕ) (F × List ℕ)} {Encodes : List ℕ → Y → Type 0} {HasError : List ℕ → F → Type 0}
    → Agrees end reading Encodes HasError → (bytes rest : List ℕ) (c : F) → AllBytes bytes → reading bytes ≡ Err (c, rest) → Shows end HasError bytes rest c
shows_by {end = end} agrees bytes rest c small e =
    let s = agrees.shown bytes c rest small e in
    let taken = bytes_before bytes s.prefix rest s.joined small in
    record {
      taken = s.prefix;
      joined = s.joined;
      shown = agrees.refused s.prefix c _ taken s.alone;
      all = s.all;
      early = λ other prefix byte last. agrees.refused prefix end _ (bytes_before s.prefix prefix _ last taken) (s.early other prefix byte last);
    }

refused_at : {Y : Type 0} (reading : List ℕ → Result (Y × List ℕ) (Cause × List ℕ)) (taken rest : List ℕ) (count : ℕ) (c : Cause) → count < 2 ^ 64 - 1 → Stops (read_stop (Corrupted c)) reading taken rest count → reading (taken ++ rest) ≡ Err (c, rest)
refused_at reading taken rest count TooLong few h = absurd (omega (arith, few, h.0))
refused_at reading taken rest count c few h = h

-- few bytes were taken, so more can be counted
is_read : {X Y : Type 0} (view : X → Y) (result : Result X ReadError) (reading : List ℕ → Result (Y × List ℕ) (Cause × List ℕ)) (y : Y) (rest taken now : List ℕ) (count : ℕ) → count < 2 ^ 64 - 1 → reading (taken ++ now) ≡ Ok (y, rest) → Gives read_stop view result reading taken now count
    → IsReadUnless SaysNoCause view result y rest now
is_read view (Ok x) reading y rest taken now count few e h = let q = ok_is (Cause × List ℕ) (view x, now) (y, rest) (sym (h now) ∙ e) in (ap (λ z. z.0) q, ap (λ z. z.1) q)
is_read {Y = Y} view (Err (Corrupted c)) reading y rest taken now count few e h = no_ok (c, now) (y, rest) (sym (refused_at reading taken now count c few h) ∙ e)
is_read view (Err (Io kind)) reading y rest taken now count few e h = tt
is_read view (Err Memory) reading y rest taken now count few e h = tt

-- bytes that end too early
pub early_by : {F Y : Type 0} {end : F} {reading : List ℕ → Result (Y × List ℕ) (F × List ℕ)} {Encodes : List ℕ → Y → Type 0} {HasError : List ℕ → F → Type 0}
    → Agrees end reading Encodes HasError → (bytes taken rest : List ℕ) (c : F) → AllBytes bytes → bytes ≡ taken ++ rest → reading taken ≡ Err (c, []) → EndsEarly c HasError bytes rest
early_by agrees bytes taken rest c small joined e = record { taken = taken; joined = joined; shown = agrees.refused taken c [] (bytes_before bytes taken rest joined small) e }

-- what is counted of few bytes is few
pub few_taken : {old new : List ℕ} {now : ℕ} → length old < 2 ^ 64 - 1 → Taken old new 0 now → now < 2 ^ 64 - 1
few_taken {new = new} few t = omega (arith, t.counted, ap length t.joined, length-append t.prefix new)

-- no error may come
any : {X : Type 0} (result : Result X ReadError) → IfErr result (λ _. Unit {0})
any (Ok x) = tt
any (Err e) = tt

module _ {S X Y : Type 0} (source : Ghosts S) (are_bytes : (s : S) → source.is_known s → AllBytes (source.left s)) (old new : S) (new_count : ℕ) (view : X → Y) (result : Result X ReadError)
    {reading : List ℕ → Result (Y × List ℕ) (Cause × List ℕ)} {Encodes : List ℕ → Y → Type 0} {HasError : List ℕ → Cause → Type 0} (agrees : Agrees UnexpectedEnd reading Encodes HasError) where
  pub by_grammar : TakesBy source old 0 new new_count view result reading → ReadsAs source old new view result Encodes HasError
  by_grammar h =
      let left = source.left in
      let stops = λ (told : source.is_known old) (e : ReadError) (s : Stop Cause) (is : IsErrOf result e) (stop : read_stop e ≡ s).
      stopped_at view reading (h.taken told).prefix (source.left new) new_count result e {s = s} is stop (h.gives told (h.taken told).prefix (h.taken told).joined) in
      let refusal = λ (told : source.is_known old) (e : ReadError) (c : Cause) (is : IsErrOf result e) (stop : read_stop e ≡ InputError c).
      ap reading (h.taken told).joined ∙ stops told e (InputError c) is stop in
      record {
        found = λ told. let t = h.taken told in found_by view agrees (left old) t.prefix (left new) new_count result (are_bytes old told) t.joined (h.gives told t.prefix t.joined);
        only = λ known y prefix rest e encodes room.
            let t = h.taken known.0 in
            is_read view result reading y rest t.prefix (left new) new_count (few_taken known.1 t) (ap reading (sym t.joined ∙ e) ∙ agrees.complete prefix y rest encodes) (h.gives known.0 t.prefix t.joined);
        error = λ told e c is stop. agrees.refused (left old) c (left new) (are_bytes old told) (refusal told e c is stop);
        shows = λ told e c is stop. shows_by agrees (left old) (left new) c (are_bytes old told) (refusal told e c is stop);
        too_long = λ told e c is stop. let t = h.taken told in (t.prefix, t.joined, omega (arith, t.counted, (stops told e (Uncounted c) is stop).0));
        ends_early = λ told e c is stop. let t = h.taken told in early_by agrees (left old) t.prefix (left new) c (are_bytes old told) t.joined (stops told e (Uncounted c) is stop).1;
        no_room = λ told e is none. none;
        errors = any result;
        taken = λ told. let t = h.taken told in (t.prefix, t.joined);
        failures = h.counts;
        stays_known = h.stays_known;
      }

  pub by_grammar_lean : TakesLean source old 0 new new_count view result reading → ReadsLean source old new view result Encodes HasError
  by_grammar_lean h = (by_grammar (lean h), λ is. (IfErr-at_err (λ e. MayStopLean e new_count) is h.may_stop).1 refl)
