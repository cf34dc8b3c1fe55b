-- One step of reading after the other, with the count, for every error type.
use Rattle.std.proofs.Common.{◌≡◌, ℕ, ◌-◌, ◌^◌, ◌≤◌, List, [], ◌++◌, Result, Ok, Err, refl, sym, ap, subst, ◌∙◌, arith, append_assoc, length-append}
use Rattle.std.specs.declared.io.ErrorKind.{ErrorKind}
use Rattle.std.proofs.lemmas.List.{append-nil, append_cancel_right}
use Rattle.std.proofs.lemmas.Result.{IfErr-weaker}
use Rattle.tv_base.specs.declared.cause.ReadError.{ReadError}
use Rattle.tv_base.specs.declared.cause.Cause.{Cause}
use Rattle.tv_base.specs.Source.{Failures, HasFailed}
use Rattle.tv_base.specs.Stop.{Stop, ◌>>=◌, Stops, Gives, CountsStop, Counts, Taken, Takes}
use Rattle.tv_base.specs.Stop.Stop.{InputError, Uncounted, Failed, Short, Never}
use Rattle.tv_base.specs.Take.{read_stop, MayStop, MayStopLean}

pub bind_bind : {F A B C : Type 0} (read : Result A F) (f : A → Result B F) (h : B → Result C F) → ((read >>= f) >>= h) ≡ (read >>= λ x. f x >>= h)
bind_bind (Ok x) f h = refl
bind_bind (Err c) f h = refl

-- ---- slices

pub Taken_none : (bytes : List ℕ) (count : ℕ) → Taken bytes bytes count count
Taken_none bytes count = record { prefix = []; joined = refl; counted = omega arith }

pub Taken_then : {old mid new : List ℕ} {i j k : ℕ} → Taken old mid i j → Taken mid new j k → Taken old new i k
Taken_then {new = new} a b = record {
  prefix = a.prefix ++ b.prefix;
  joined = a.joined ∙ ap (λ (l : List ℕ). a.prefix ++ l) b.joined ∙ sym (append_assoc a.prefix b.prefix new);
  counted = omega (arith, a.counted, b.counted, length-append a.prefix b.prefix);
}

-- nothing was taken where the same is left
pub none_taken : (taken rest : List ℕ) → rest ≡ taken ++ rest → taken ≡ []
none_taken taken rest e = append_cancel_right taken [] rest (sym e)

-- what was taken before and what was taken then
pub both_taken : {old mid : List ℕ} (a b taken new : List ℕ) → old ≡ a ++ mid → mid ≡ b ++ new → old ≡ taken ++ new → taken ≡ a ++ b
both_taken a b taken new first second whole = append_cancel_right taken (a ++ b) new (sym whole ∙ first ∙ ap (λ (l : List ℕ). a ++ l) second ∙ sym (append_assoc a b new))

-- the bytes that were taken stand before those that are left
pub read_ok : {P E F X Y : Type 0} {stop : E → Stop F} {May : E → ℕ → Type 0} {is_known : P → Type 0} {left : P → List ℕ} {count : P → ℕ} {failures : P → Failures} {old new : P} {view : X → Y} {x : X} {reading : List ℕ → Result (Y × List ℕ) (F × List ℕ)}
    → Takes stop May is_known left count failures old new view (Ok x) reading → is_known old → reading (left old) ≡ Ok (view x, left new)
read_ok {left = left} {new = new} {reading = reading} h told = let t = h.taken told in ap reading t.joined ∙ h.gives told t.prefix t.joined (left new)

-- ---- stops

Stops-then : {F A B : Type 0} (s : Stop F) (reading : List ℕ → Result (A × List ℕ) (F × List ℕ)) (f : A × List ℕ → Result (B × List ℕ) (F × List ℕ)) (whole : List ℕ → Result (B × List ℕ) (F × List ℕ)) (before taken rest : List ℕ) (count : ℕ)
    → ((bytes : List ℕ) → whole (before ++ bytes) ≡ (reading bytes >>= f)) → Stops s reading taken rest count → Stops s whole (before ++ taken) rest count
Stops-then (InputError c) reading f whole before taken rest count parts h = ap whole (append_assoc before taken rest) ∙ parts (taken ++ rest) ∙ ap (λ r. r >>= f) h
Stops-then (Uncounted c) reading f whole before taken rest count parts h = (h.0, parts taken ∙ ap (λ r. r >>= f) h.1)
Stops-then (Failed kind) reading f whole before taken rest count parts h = tt
Stops-then Short reading f whole before taken rest count parts h = tt
Stops-then Never reading f whole before taken rest count parts h = h

Stops-behind : {F A : Type 0} (s : Stop F) (reading whole : List ℕ → Result (A × List ℕ) (F × List ℕ)) (before taken rest : List ℕ) (count : ℕ) → ((bytes : List ℕ) → whole (before ++ bytes) ≡ reading bytes) → Stops s reading taken rest count → Stops s whole (before ++ taken) rest count
Stops-behind (InputError c) reading whole before taken rest count same h = ap whole (append_assoc before taken rest) ∙ same (taken ++ rest) ∙ h
Stops-behind (Uncounted c) reading whole before taken rest count same h = (h.0, same taken ∙ h.1)
Stops-behind (Failed kind) reading whole before taken rest count same h = tt
Stops-behind Short reading whole before taken rest count same h = tt
Stops-behind Never reading whole before taken rest count same h = h

Gives-behind : {E F X Y : Type 0} (stop : E → Stop F) (view : X → Y) (result : Result X E) (reading whole : List ℕ → Result (Y × List ℕ) (F × List ℕ)) (before taken rest : List ℕ) (count : ℕ)
    → ((bytes : List ℕ) → whole (before ++ bytes) ≡ reading bytes) → Gives stop view result reading taken rest count → Gives stop view result whole (before ++ taken) rest count
Gives-behind stop view (Ok x) reading whole before taken rest count same h = λ behind. ap whole (append_assoc before taken behind) ∙ same (taken ++ behind) ∙ h behind
Gives-behind stop view (Err e) reading whole before taken rest count same h = Stops-behind (stop e) reading whole before taken rest count same h

pub CountsStop-from : {F : Type 0} (s : Stop F) (old mid new : Failures) → mid ≡ old → CountsStop s mid new → CountsStop s old new
CountsStop-from (InputError c) old mid new same h = h ∙ same
CountsStop-from (Uncounted c) old mid new same h = h ∙ same
CountsStop-from (Failed kind) old mid new same h = subst (λ n. HasFailed kind n new) same h
CountsStop-from Short old mid new same h = h ∙ same
CountsStop-from Never old mid new same h = h

pub Counts-from : {E F X : Type 0} (stop : E → Stop F) (result : Result X E) (old mid new : Failures) → mid ≡ old → Counts stop result mid new → Counts stop result old new
Counts-from stop (Ok x) old mid new same h = h ∙ same
Counts-from stop (Err e) old mid new same h = CountsStop-from (stop e) old mid new same h

-- a failure after steps that had none
pub failed_since : {kind : ErrorKind} {old mid new : Failures} → mid ≡ old → HasFailed kind mid new → HasFailed kind old new
failed_since {kind} {new = new} same h = subst (λ n. HasFailed kind n new) same h

-- a lean reader as any other
pub lean : {P X Y : Type 0} {is_known : P → Type 0} {left : P → List ℕ} {count : P → ℕ} {failures : P → Failures} {old new : P} {view : X → Y} {result : Result X ReadError} {reading : List ℕ → Result (Y × List ℕ) (Cause × List ℕ)}
    → Takes read_stop MayStopLean is_known left count failures old new view result reading → Takes read_stop MayStop is_known left count failures old new view result reading
lean {result = result} h = record { gives = h.gives; taken = h.taken; stays_known = h.stays_known; counts = h.counts; count_grows = h.count_grows; may_stop = IfErr-weaker result _ _ (λ e may. may.0) h.may_stop }

-- In the midst of reading: what the whole reads of the bytes that were taken and any after them is what the rest reads of those after.
pub record SoFar {P F Y : Type 0} (is_known : P → Type 0) (left : P → List ℕ) (count : P → ℕ) (failures : P → Failures) (old now : P) (whole rest : List ℕ → Result (Y × List ℕ) (F × List ℕ)) : Type 0 where
  pub goes : is_known old → (taken : List ℕ) → left old ≡ taken ++ left now → (behind : List ℕ) → whole (taken ++ behind) ≡ rest behind
  pub taken : is_known old → Taken (left old) (left now) (count old) (count now)
  pub stays_known : is_known old → is_known now
  pub counts : failures now ≡ failures old
  pub count_grows : count old ≤ count now

pub SoFar-start : {P F Y : Type 0} (is_known : P → Type 0) (left : P → List ℕ) (count : P → ℕ) (failures : P → Failures) (p : P) (whole rest : List ℕ → Result (Y × List ℕ) (F × List ℕ)) → ((bytes : List ℕ) → whole bytes ≡ rest bytes) → SoFar is_known left count failures p p whole rest
SoFar-start is_known left count failures p whole rest same = record {
  goes = λ told taken joined behind. ap (λ (l : List ℕ). whole (l ++ behind)) (none_taken taken (left p) joined) ∙ same behind;
  taken = λ told. Taken_none (left p) (count p);
  stays_known = λ told. told;
  counts = refl;
  count_grows = omega arith;
}

pub SoFar-is : {P F Y : Type 0} {is_known : P → Type 0} {left : P → List ℕ} {count : P → ℕ} {failures : P → Failures} {old now : P} {whole rest : List ℕ → Result (Y × List ℕ) (F × List ℕ)} (other : List ℕ → Result (Y × List ℕ) (F × List ℕ))
    → ((bytes : List ℕ) → rest bytes ≡ other bytes) → SoFar is_known left count failures old now whole rest → SoFar is_known left count failures old now whole other
SoFar-is other same h = record { goes = λ told taken joined behind. h.goes told taken joined behind ∙ same behind; taken = h.taken; stays_known = h.stays_known; counts = h.counts; count_grows = h.count_grows }

pub SoFar-step : {P E F X Y Z : Type 0} {stop : E → Stop F} {May : E → ℕ → Type 0} {is_known : P → Type 0} {left : P → List ℕ} {count : P → ℕ} {failures : P → Failures} {old mid new : P} {whole rest : List ℕ → Result (Y × List ℕ) (F × List ℕ)} {first : List ℕ → Result (Z × List ℕ) (F × List ℕ)} {view : X → Z} {x : X}
    (f : Z × List ℕ → Result (Y × List ℕ) (F × List ℕ)) → ((bytes : List ℕ) → rest bytes ≡ (first bytes >>= f))
    → SoFar is_known left count failures old mid whole rest → Takes stop May is_known left count failures mid new view (Ok x) first → SoFar is_known left count failures old new whole (λ bytes. f (view x, bytes))
SoFar-step {left = left} {new = new} {whole = whole} f parts h read = record {
  goes = λ told taken joined behind.
      let a = h.taken told in
      let known = h.stays_known told in
      let b = read.taken known in
      ap (λ (l : List ℕ). whole (l ++ behind)) (both_taken a.prefix b.prefix taken (left new) a.joined b.joined joined)
      ∙ ap whole (append_assoc a.prefix b.prefix behind)
      ∙ h.goes told a.prefix a.joined (b.prefix ++ behind)
      ∙ parts (b.prefix ++ behind)
      ∙ ap (λ r. r >>= f) (read.gives known b.prefix b.joined behind);
  taken = λ told. Taken_then (h.taken told) (read.taken (h.stays_known told));
  stays_known = λ told. read.stays_known (h.stays_known told);
  counts = read.counts ∙ h.counts;
  count_grows = omega (arith, h.count_grows, read.count_grows);
}

pub SoFar-fails : {P E F X Y Z W : Type 0} {stop : E → Stop F} {May : E → ℕ → Type 0} {is_known : P → Type 0} {left : P → List ℕ} {count : P → ℕ} {failures : P → Failures} {old mid new : P} {whole rest : List ℕ → Result (Y × List ℕ) (F × List ℕ)} {first : List ℕ → Result (Z × List ℕ) (F × List ℕ)} {view : X → Z} (other : W → Y) (e : E)
    (f : Z × List ℕ → Result (Y × List ℕ) (F × List ℕ)) → ((bytes : List ℕ) → rest bytes ≡ (first bytes >>= f))
    → SoFar is_known left count failures old mid whole rest → Takes stop May is_known left count failures mid new view (Err e) first → Takes stop May is_known left count failures old new other (Err e) whole
SoFar-fails {stop = stop} {left = left} {count = count} {new = new} {whole = whole} {first = first} other e f parts h read = record {
  gives = λ told taken joined.
      let a = h.taken told in
      let known = h.stays_known told in
      let b = read.taken known in
      subst (λ (l : List ℕ). Stops (stop e) whole l (left new) (count new)) (sym (both_taken a.prefix b.prefix taken (left new) a.joined b.joined joined))
      (Stops-then (stop e) first f whole a.prefix b.prefix (left new) (count new) (λ bytes. h.goes told a.prefix a.joined bytes ∙ parts bytes) (read.gives known b.prefix b.joined));
  taken = λ told. Taken_then (h.taken told) (read.taken (h.stays_known told));
  stays_known = λ told. read.stays_known (h.stays_known told);
  counts = CountsStop-from (stop e) _ _ _ h.counts read.counts;
  count_grows = omega (arith, h.count_grows, read.count_grows);
  may_stop = read.may_stop;
}

-- the rest was read, or not
pub SoFar-then : {P E F X Y : Type 0} {stop : E → Stop F} {May : E → ℕ → Type 0} {is_known : P → Type 0} {left : P → List ℕ} {count : P → ℕ} {failures : P → Failures} {old mid new : P} {whole rest : List ℕ → Result (Y × List ℕ) (F × List ℕ)} {view : X → Y} {result : Result X E}
    → SoFar is_known left count failures old mid whole rest → Takes stop May is_known left count failures mid new view result rest → Takes stop May is_known left count failures old new view result whole
SoFar-then {stop = stop} {left = left} {count = count} {failures = failures} {old = old} {mid = mid} {new = new} {whole = whole} {rest = rest} {view = view} {result = result} h read = record {
  gives = λ told taken joined.
      let a = h.taken told in
      let known = h.stays_known told in
      let b = read.taken known in
      subst (λ (l : List ℕ). Gives stop view result whole l (left new) (count new)) (sym (both_taken a.prefix b.prefix taken (left new) a.joined b.joined joined))
      (Gives-behind stop view result rest whole a.prefix b.prefix (left new) (count new) (λ bytes. h.goes told a.prefix a.joined bytes) (read.gives known b.prefix b.joined));
  taken = λ told. Taken_then (h.taken told) (read.taken (h.stays_known told));
  stays_known = λ told. read.stays_known (h.stays_known told);
  counts = Counts-from stop result (failures old) (failures mid) (failures new) h.counts read.counts;
  count_grows = omega (arith, h.count_grows, read.count_grows);
  may_stop = read.may_stop;
}

pub SoFar-returns : {P E F X Y : Type 0} (stop : E → Stop F) {May : E → ℕ → Type 0} {is_known : P → Type 0} {left : P → List ℕ} {count : P → ℕ} {failures : P → Failures} {old now : P} {whole rest : List ℕ → Result (Y × List ℕ) (F × List ℕ)} (view : X → Y) (x : X)
    → ((bytes : List ℕ) → rest bytes ≡ Ok (view x, bytes)) → SoFar is_known left count failures old now whole rest → Takes stop May is_known left count failures old now view (Ok x) whole
SoFar-returns stop view x done h = record { gives = λ told taken joined behind. h.goes told taken joined behind ∙ done behind; taken = h.taken; stays_known = h.stays_known; counts = h.counts; count_grows = h.count_grows; may_stop = tt }

pub SoFar-refuses : {P E F X Y : Type 0} (stop : E → Stop F) {May : E → ℕ → Type 0} {is_known : P → Type 0} {left : P → List ℕ} {count : P → ℕ} {failures : P → Failures} {old now : P} {whole rest : List ℕ → Result (Y × List ℕ) (F × List ℕ)} (view : X → Y) (e : E) (c : F)
    → stop e ≡ InputError c → May e (count now) → ((bytes : List ℕ) → rest bytes ≡ Err (c, bytes)) → SoFar is_known left count failures old now whole rest → Takes stop May is_known left count failures old now view (Err e) whole
SoFar-refuses stop {left = left} {count = count} {failures = failures} {old = old} {now = now} {whole = whole} view e c is may refused h =
    record { gives = λ told taken joined. subst (λ s. Stops s whole taken (left now) (count now)) (sym is) (h.goes told taken joined (left now) ∙ refused (left now)); taken = h.taken; stays_known = h.stays_known; counts = subst (λ s. CountsStop s (failures old) (failures now)) (sym is) h.counts; count_grows = h.count_grows; may_stop = may }

-- no more bytes can be counted, and reading needs more
pub SoFar-ends : {P E F X Y : Type 0} (stop : E → Stop F) {May : E → ℕ → Type 0} {is_known : P → Type 0} {left : P → List ℕ} {count : P → ℕ} {failures : P → Failures} {old now : P} {whole rest : List ℕ → Result (Y × List ℕ) (F × List ℕ)} (view : X → Y) (e : E) (end : F)
    → stop e ≡ Uncounted end → count now ≡ 2 ^ 64 - 1 → May e (count now) → rest [] ≡ Err (end, []) → SoFar is_known left count failures old now whole rest → Takes stop May is_known left count failures old now view (Err e) whole
SoFar-ends stop {left = left} {count = count} {failures = failures} {old = old} {now = now} {whole = whole} view e end is most may ended h = record {
  gives = λ told taken joined. subst (λ s. Stops s whole taken (left now) (count now)) (sym is) (most, ap whole (sym (append-nil taken)) ∙ h.goes told taken joined [] ∙ ended);
  taken = h.taken;
  stays_known = h.stays_known;
  counts = subst (λ s. CountsStop s (failures old) (failures now)) (sym is) h.counts;
  count_grows = h.count_grows;
  may_stop = may;
}

pub SoFar-stops : {P E F X Y : Type 0} (stop : E → Stop F) {May : E → ℕ → Type 0} {is_known : P → Type 0} {left : P → List ℕ} {count : P → ℕ} {failures : P → Failures} {old now : P} {whole rest : List ℕ → Result (Y × List ℕ) (F × List ℕ)} (view : X → Y) (e : E)
    → stop e ≡ Short → May e (count now) → SoFar is_known left count failures old now whole rest → Takes stop May is_known left count failures old now view (Err e) whole
SoFar-stops stop {left = left} {count = count} {failures = failures} {old = old} {now = now} {whole = whole} view e is may h =
    record { gives = λ told taken joined. subst (λ s. Stops s whole taken (left now) (count now)) (sym is) tt; taken = h.taken; stays_known = h.stays_known; counts = subst (λ s. CountsStop s (failures old) (failures now)) (sym is) h.counts; count_grows = h.count_grows; may_stop = may }
