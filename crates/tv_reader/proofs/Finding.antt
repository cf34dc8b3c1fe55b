-- Readers one after the other, told by the grammar.
use Rattle.std.proofs.Common.{◌≡◌, ◌≢◌, ℕ, List, [], ◌∷◌, ◌++◌, Result, Ok, Err, refl, sym, ap, subst, ◌∙◌, arith, inl, append_assoc}
use Rattle.std.proofs.lemmas.List.{append-nil}
use Rattle.std.proofs.lemmas.Result.{IfErr-weaker}
use Rattle.tv_base.specs.declared.cause.Cause.{Cause}
use Rattle.tv_base.specs.declared.cause.Cause.TheVariants.{UnexpectedEnd, TooLong}
use Rattle.tv_base.specs.declared.cause.ReadError.{ReadError}
use Rattle.tv_base.specs.declared.cause.ReadError.TheVariants as reads
use Rattle.tv_base.specs.Parts.{Begins}
use Rattle.tv_base.specs.ReadsAs.{Shows, EndsEarly}
use Rattle.tv_base.specs.Source.{Failures, AllBytes}
use Rattle.tv_base.specs.Stop.{Stop, Stops, CountsStop}
use Rattle.tv_base.specs.Stop.Stop.{InputError, Uncounted, Failed, Short, Never}
use Rattle.tv_base.specs.Take.{TakesIf, MayStop, MayStopLean, read_stop}
use Rattle.tv_base.proofs.Agrees.{Agrees, empty, ends_in, ends, same_start, no_last}
use Rattle.tv_base.proofs.ByGrammar.{shows_by, early_by}
use Rattle.tv_base.proofs.TakeSteps.{Taken_none, Taken_then, read_ok, Counts-from}
use Rattle.tv_format.specs.InputError.{Refusal, corrupted}
use Rattle.tv_reader.specs.Error.{read_error, store_stop, tree_stop, StoreMayStop, StoreMayStopRoomy, StoreMayStopDeep, StoreMayStopLean}
use Rattle.tv_reader.specs.Error as store
use Rattle.tv_reader.specs.declared.error.DeserializeError.{DeserializeError}
use Rattle.tv_reader.specs.declared.error.DeserializeError.TheVariants as errors
use Rattle.tv_reader.specs.Finds.{ShowsRefusal, GivesStop, Found, FindsBy, FindsIf, FindsDeepBy}

-- ---- bytes that show an error

pub shows_map : {F G : Type 0} {end : F} (to : F → G) → ((f : F) → to f ≡ to end → f ≡ end) → {P : List ℕ → F → Type 0} {Q : List ℕ → G → Type 0} (old new : List ℕ) (f : F)
    → ((w : List ℕ) (c : F) → P w c → Q w (to c)) → Shows end P old new f → Shows (to end) Q old new (to f)
shows_map {end = end} to apart old new f map s = record {
  taken = s.taken;
  joined = s.joined;
  shown = map s.taken f s.shown;
  all = λ e. s.all (apart f e);
  early = λ other prefix byte last. map prefix end (s.early (λ e. other (ap to e)) prefix byte last);
}

-- after a prefix, of which the bytes without the last are at their end where nothing after it was taken
pub shows_behind : {F : Type 0} {end : F} {P Q : List ℕ → F → Type 0} (prefix old mid new : List ℕ) (f : F) → old ≡ prefix ++ mid
    → ((w : List ℕ) (c : F) → P w c → Q (prefix ++ w) c) → (f ≢ end → P [] f → (start : List ℕ) (byte : ℕ) → prefix ≡ start ++ byte ∷ [] → Q start end)
    → Shows end P mid new f → Shows end Q old new f
shows_behind {end = end} {P = P} {Q = Q} prefix old mid new f joined behind edge s = record {
  taken = prefix ++ s.taken;
  joined = joined ∙ ap (λ (l : List ℕ). prefix ++ l) s.joined ∙ sym (append_assoc prefix s.taken new);
  shown = behind s.taken f s.shown;
  all = s.all;
  early = λ other start byte last. elim (ends s.taken) [
    | empty none ↦
        let whole : prefix ≡ start ++ byte ∷ [] = sym (append-nil prefix) ∙ ap (λ (l : List ℕ). prefix ++ l) (sym none) ∙ last in
        edge other (subst (λ l. P l f) none s.shown) start byte whole
    | ends_in before y is ↦
        let cut : start ≡ prefix ++ before = same_start start (prefix ++ before) byte y (sym last ∙ ap (λ (l : List ℕ). prefix ++ l) is ∙ sym (append_assoc prefix before (y ∷ []))) in
        subst (λ l. Q l end) (sym cut) (behind before end (s.early other before y is))
  ];
}

refuses_behind : {F : Type 0} {end : F} {P Q : List ℕ → F → Type 0} (prefix old mid new : List ℕ) (f : F) → old ≡ prefix ++ mid
    → ((w : List ℕ) (c : F) → P w c → Q (prefix ++ w) c) → (f ≢ end → P [] f → (start : List ℕ) (byte : ℕ) → prefix ≡ start ++ byte ∷ [] → Q start end)
    → ShowsRefusal end P mid new f → ShowsRefusal end Q old new f
refuses_behind {Q = Q} prefix old mid new f joined behind edge r =
    record { stands = subst (λ l. Q l f) (sym joined) (behind mid f r.stands); shows = shows_behind prefix old mid new f joined behind edge r.shows }

-- bytes that end too early, after a prefix
early_behind : {F : Type 0} {P Q : List ℕ → F → Type 0} (prefix old mid new : List ℕ) (f : F) → old ≡ prefix ++ mid → ((w : List ℕ) (c : F) → P w c → Q (prefix ++ w) c) → EndsEarly f P mid new → EndsEarly f Q old new
early_behind prefix old mid new f joined behind h = record {
  taken = prefix ++ h.taken;
  joined = joined ∙ ap (λ (l : List ℕ). prefix ++ l) h.joined ∙ sym (append_assoc prefix h.taken new);
  shown = behind h.taken f h.shown;
}

-- and in other words
pub early_map : {F G : Type 0} (to : F → G) {P : List ℕ → F → Type 0} {Q : List ℕ → G → Type 0} (old new : List ℕ) (f : F) → ((w : List ℕ) (c : F) → P w c → Q w (to c)) → EndsEarly f P old new → EndsEarly (to f) Q old new
early_map to old new f map h = record { taken = h.taken; joined = h.joined; shown = map h.taken f h.shown }

stop_behind : {F : Type 0} (end : F) (P Q : List ℕ → F → Type 0) (s : Stop F) (prefix old mid new : List ℕ) (count : ℕ) → old ≡ prefix ++ mid
    → ((w : List ℕ) (c : F) → P w c → Q (prefix ++ w) c) → ((f : F) → f ≢ end → P [] f → (start : List ℕ) (byte : ℕ) → prefix ≡ start ++ byte ∷ [] → Q start end)
    → GivesStop end P mid new count s → GivesStop end Q old new count s
stop_behind end P Q (InputError f) prefix old mid new count joined behind edge h = refuses_behind prefix old mid new f joined behind (edge f) h
stop_behind end P Q (Uncounted f) prefix old mid new count joined behind edge h = (h.0, early_behind prefix old mid new f joined behind h.1)
stop_behind end P Q (Failed kind) prefix old mid new count joined behind edge h = tt
stop_behind end P Q Short prefix old mid new count joined behind edge h = tt
stop_behind end P Q Never prefix old mid new count joined behind edge h = h

-- ---- readers

pub found_behind : {E F X Y : Type 0} (stop : E → Stop F) (end : F) (R : List ℕ → X → Type 0) (P Q : List ℕ → F → Type 0) (A B : List ℕ → Y → Type 0) (x : X) (result : Result Y E) (old mid new : List ℕ) (count : ℕ)
    → ((a b : List ℕ) (y : Y) → R a x → A b y → B (a ++ b) y) → ((a w : List ℕ) (c : F) → R a x → P w c → Q (a ++ w) c)
    → ((a : List ℕ) (f : F) → R a x → f ≢ end → P [] f → (start : List ℕ) (byte : ℕ) → a ≡ start ++ byte ∷ [] → Q start end)
    → Begins (λ b. R b x) old mid → Found stop end A P mid new count result → Found stop end B Q old new count result
found_behind stop end R P Q A B x (Ok y) old mid new count join behind edge p h = record {
  prefix = p.prefix ++ h.prefix;
  joined = p.joined ∙ ap (λ (l : List ℕ). p.prefix ++ l) h.joined ∙ sym (append_assoc p.prefix h.prefix new);
  encoded = join p.prefix h.prefix y p.encoded h.encoded;
}
found_behind stop end R P Q A B x (Err e) old mid new count join behind edge p h =
    stop_behind end P Q (stop e) p.prefix old mid new count p.joined (λ w c q. behind p.prefix w c p.encoded q) (λ f. edge p.prefix f p.encoded) h

-- a first part was read, and then the reader went on
pub finds_then : {S E F X Y : Type 0} {stop : E → Stop F} {May0 May : E → ℕ → Type 0} {end : F} {is_known : S → Type 0} {left : S → List ℕ} {failures : S → Failures} {old mid new : S} {i j k : ℕ} {x : X} {result : Result Y E}
    {R : List ℕ → X → Type 0} {I : List ℕ → F → Type 0} {A : List ℕ → Y → Type 0} {P : List ℕ → F → Type 0} (B : List ℕ → Y → Type 0) (Q : List ℕ → F → Type 0)
    → ((a b : List ℕ) (y : Y) → R a x → A b y → B (a ++ b) y) → ((a w : List ℕ) (c : F) → R a x → P w c → Q (a ++ w) c)
    → ((a : List ℕ) (f : F) → R a x → f ≢ end → P [] f → (start : List ℕ) (byte : ℕ) → a ≡ start ++ byte ∷ [] → Q start end)
    → FindsBy stop May0 end is_known left failures old i mid j (Ok x) R I → FindsBy stop May end is_known left failures mid j new k result A P → FindsBy stop May end is_known left failures old i new k result B Q
finds_then {stop = stop} {end = end} {left = left} {failures = failures} {old = old} {mid = mid} {new = new} {k = k} {x = x} {result = result} {R = R} {A = A} {P = P} B Q join behind edge p h = record {
  found = λ t. found_behind stop end R P Q A B x result (left old) (left mid) (left new) k join behind edge (p.found t) (h.found (p.stays_known t));
  taken = λ t. Taken_then (p.taken t) (h.taken (p.stays_known t));
  stays_known = λ t. h.stays_known (p.stays_known t);
  counts = Counts-from stop result (failures old) (failures mid) (failures new) p.counts h.counts;
  count_grows = omega (arith, p.count_grows, h.count_grows);
  may_stop = h.may_stop;
}

-- the same of what is read, in other words
pub finds_as : {S E F X Y : Type 0} {stop : E → Stop F} {May0 May : E → ℕ → Type 0} {end : F} {is_known : S → Type 0} {left : S → List ℕ} {failures : S → Failures} {old new : S} {i k : ℕ} {x : X} {R : List ℕ → X → Type 0} {I : List ℕ → F → Type 0} (y : Y) (B : List ℕ → Y → Type 0) (Q : List ℕ → F → Type 0)
    → ((a : List ℕ) → R a x → B a y) → FindsBy stop May0 end is_known left failures old i new k (Ok x) R I → FindsBy stop May end is_known left failures old i new k (Ok y) B Q
finds_as y B Q map p =
    record { found = λ t. let h = p.found t in record { prefix = h.prefix; joined = h.joined; encoded = map h.prefix h.encoded }; taken = p.taken; stays_known = p.stays_known; counts = p.counts; count_grows = p.count_grows; may_stop = tt }

pub stop_map : {F : Type 0} (end : F) (P Q : List ℕ → F → Type 0) (s : Stop F) (old new : List ℕ) (count : ℕ) → ((w : List ℕ) (c : F) → P w c → Q w c) → GivesStop end P old new count s → GivesStop end Q old new count s
stop_map end P Q (InputError f) old new count map h = record { stands = map old f h.stands; shows = shows_map (λ c. c) (λ f e. e) old new f map h.shows }
stop_map end P Q (Uncounted f) old new count map h = (h.0, early_map (λ c. c) old new f map h.1)
stop_map end P Q (Failed kind) old new count map h = tt
stop_map end P Q Short old new count map h = tt
stop_map end P Q Never old new count map h = h

-- less may stop a part than the whole
pub finds_any : {S E F X : Type 0} {stop : E → Stop F} {May0 May : E → ℕ → Type 0} {end : F} {is_known : S → Type 0} {left : S → List ℕ} {failures : S → Failures} {old new : S} {i k : ℕ} {result : Result X E} {B : List ℕ → X → Type 0} {Q : List ℕ → F → Type 0}
    → ((e : E) (n : ℕ) → May0 e n → May e n) → FindsBy stop May0 end is_known left failures old i new k result B Q → FindsBy stop May end is_known left failures old i new k result B Q
finds_any {k = k} {result = result} less p =
    record { found = p.found; taken = p.taken; stays_known = p.stays_known; counts = p.counts; count_grows = p.count_grows; may_stop = IfErr-weaker result _ _ (λ e may. less e k may) p.may_stop }

-- a refusal of a part is one of the whole
pub finds_fails : {S E F X Y : Type 0} {stop : E → Stop F} {May : E → ℕ → Type 0} {end : F} {is_known : S → Type 0} {left : S → List ℕ} {failures : S → Failures} {old new : S} {i k : ℕ} {e : E} {R : List ℕ → X → Type 0} {P : List ℕ → F → Type 0} (B : List ℕ → Y → Type 0) (Q : List ℕ → F → Type 0)
    → ((w : List ℕ) (c : F) → P w c → Q w c) → FindsBy stop May end is_known left failures old i new k (Err e) R P → FindsBy stop May end is_known left failures old i new k (Err e) B Q
finds_fails {stop = stop} {end = end} {left = left} {old = old} {new = new} {k = k} {e = e} {P = P} B Q map p =
    record { found = λ t. stop_map end P Q (stop e) (left old) (left new) k map (p.found t); taken = p.taken; stays_known = p.stays_known; counts = p.counts; count_grows = p.count_grows; may_stop = p.may_stop }

-- what was read can't be kept
pub finds_short : {S E F X Y : Type 0} {stop : E → Stop F} {May0 May : E → ℕ → Type 0} {end : F} {is_known : S → Type 0} {left : S → List ℕ} {failures : S → Failures} {old new : S} {i k : ℕ} {x : X} {R : List ℕ → X → Type 0} {I : List ℕ → F → Type 0} (e : E) (B : List ℕ → Y → Type 0) (Q : List ℕ → F → Type 0)
    → stop e ≡ Short → May e k → FindsBy stop May0 end is_known left failures old i new k (Ok x) R I → FindsBy stop May end is_known left failures old i new k (Err e) B Q
finds_short {end = end} {left = left} {failures = failures} {old = old} {new = new} {k = k} e B Q is may p =
    record { found = λ t. subst (GivesStop end Q (left old) (left new) k) (sym is) tt; taken = p.taken; stays_known = p.stays_known; counts = subst (λ s. CountsStop s (failures old) (failures new)) (sym is) p.counts; count_grows = p.count_grows; may_stop = may }

-- two parts were read, and can't be kept
pub finds_short_then : {S F E X Y Z : Type 0} {stop : E → Stop F} {May0 May1 May : E → ℕ → Type 0} {end : F} {is_known : S → Type 0} {left : S → List ℕ} {failures : S → Failures} {old mid new : S} {i j k : ℕ} {x : X} {y : Y} {R : List ℕ → X → Type 0} {I : List ℕ → F → Type 0} {A : List ℕ → Y → Type 0} {P : List ℕ → F → Type 0}
    (e : E) (B : List ℕ → Z → Type 0) (Q : List ℕ → F → Type 0)
    → stop e ≡ Short → May e k → FindsBy stop May0 end is_known left failures old i mid j (Ok x) R I → FindsBy stop May1 end is_known left failures mid j new k (Ok y) A P → FindsBy stop May end is_known left failures old i new k (Err e) B Q
finds_short_then e B Q is may p h = finds_short e B Q is may (finds_then (λ b y. Unit {0}) (λ w r. Unit {0}) (λ a b y r s. tt) (λ a w c r f. tt) (λ a f r _ _ start byte last. tt) p h)

-- nothing was read yet
pub finds_nothing : {S E F X : Type 0} (stop : E → Stop F) {May : E → ℕ → Type 0} (end : F) (is_known : S → Type 0) (left : S → List ℕ) (failures : S → Failures) (p : S) (i : ℕ) (x : X) (R : List ℕ → X → Type 0) (Q : List ℕ → F → Type 0)
    → R [] x → FindsBy stop May end is_known left failures p i p i (Ok x) R Q
finds_nothing stop end is_known left failures p i x R Q r =
    record { found = λ t. record { prefix = []; joined = refl; encoded = r }; taken = λ t. Taken_none (left p) i; stays_known = λ t. t; counts = refl; count_grows = omega arith; may_stop = tt }

-- a refusal that takes no byte
pub finds_refused : {S E F X : Type 0} (stop : E → Stop F) {May : E → ℕ → Type 0} (end : F) (is_known : S → Type 0) (left : S → List ℕ) (failures : S → Failures) (p : S) (i : ℕ) (e : E) (f : F) (R : List ℕ → X → Type 0) (Q : List ℕ → F → Type 0)
    → stop e ≡ InputError f → May e i → f ≢ end → ((w : List ℕ) → Q w f) → FindsBy stop May end is_known left failures p i p i (Err e) R Q
finds_refused stop end is_known left failures p i e f R Q is may other q = record {
  found = λ t. subst (GivesStop end Q (left p) (left p) i) (sym is) (record { stands = q (left p); shows = record { taken = []; joined = refl; shown = q []; all = λ same. absurd (other same); early = λ _ start byte last. absurd (no_last start byte last) } });
  taken = λ t. Taken_none (left p) i;
  stays_known = λ t. t;
  counts = subst (λ s. CountsStop s (failures p) (failures p)) (sym is) refl;
  count_grows = omega arith;
  may_stop = may;
}

-- ---- parts that a reading of lists gives

pub same_cause : (c : Cause) → corrupted c ≡ corrupted UnexpectedEnd → c ≡ UnexpectedEnd
same_cause c e = cc

part_found : {X Y : Type 0} (view : X → Y) {reading : List ℕ → Result (Y × List ℕ) (Cause × List ℕ)} {Encodes : List ℕ → Y → Type 0} {HasError : List ℕ → Cause → Type 0}
    → Agrees UnexpectedEnd reading Encodes HasError → (x : X) (old new : List ℕ) → AllBytes old → reading old ≡ Ok (view x, new) → Begins (λ b. Encodes b (view x)) old new
part_found view agrees x old new small e = let p = agrees.sound old (view x, new) small e in record { prefix = p.0; joined = p.2; encoded = p.1 }

-- a part was read
pub finds_part : {S X Y : Type 0} {May : ReadError → ℕ → Type 0} {is_known : S → Type 0} {left : S → List ℕ} {failures : S → Failures} {old new : S} {i k : ℕ} {view : X → Y} {x : X} {reading : List ℕ → Result (Y × List ℕ) (Cause × List ℕ)} {Encodes : List ℕ → Y → Type 0} {HasError : List ℕ → Cause → Type 0}
    → ((source : S) → is_known source → AllBytes (left source)) → Agrees UnexpectedEnd reading Encodes HasError → TakesIf May is_known left failures old i new k view (Ok x) reading
    → FindsIf StoreMayStop is_known left failures old i new k (Ok x) (λ b x. Encodes b (view x)) (λ w f. ⊥)
finds_part {left = left} {old = old} {new = new} {view = view} {x = x} are_bytes agrees h =
    record { found = λ t. part_found view agrees x (left old) (left new) (are_bytes old t) (read_ok h t); taken = h.taken; stays_known = h.stays_known; counts = h.counts; count_grows = h.count_grows; may_stop = tt }

part_shown : {Y : Type 0} {reading : List ℕ → Result (Y × List ℕ) (Cause × List ℕ)} {Encodes : List ℕ → Y → Type 0} {HasError : List ℕ → Cause → Type 0} (e : ReadError) (Q : List ℕ → Refusal → Type 0)
    → Agrees UnexpectedEnd reading Encodes HasError → ((w : List ℕ) (c : Cause) → HasError w c → Q w (corrupted c)) → (old taken new : List ℕ) (count : ℕ) → AllBytes old → old ≡ taken ++ new → Stops (read_stop e) reading taken new count
    → GivesStop (corrupted UnexpectedEnd) Q old new count (store_stop (read_error e))
part_shown (reads.Corrupted TooLong) Q agrees map old taken new count small joined h = (h.0, early_map corrupted old new UnexpectedEnd map (early_by agrees old taken new UnexpectedEnd small joined h.1))
part_shown {reading = reading} (reads.Corrupted c) Q agrees map old taken new count small joined h =
    let e = ap reading joined ∙ h in
    record { stands = map old c (agrees.refused old c new small e); shows = shows_map corrupted same_cause old new c map (shows_by agrees old new c small e) }
part_shown (reads.Io kind) Q agrees map old taken new count small joined h = tt
part_shown reads.Memory Q agrees map old taken new count small joined h = tt

pub raised_counts : (e : ReadError) (old new : Failures) → CountsStop (read_stop e) old new → CountsStop (store_stop (read_error e)) old new
raised_counts (reads.Corrupted TooLong) old new h = h
raised_counts (reads.Corrupted c) old new h = h
raised_counts (reads.Io kind) old new h = h
raised_counts reads.Memory old new h = h

-- what may stop the lower layer may stop this one
pub raised_roomy : (e : ReadError) (count : ℕ) → MayStop e count → StoreMayStopRoomy (read_error e) count
raised_roomy (reads.Corrupted c) count may = (may, λ is. cc)
raised_roomy _ count may = (tt, λ is. cc)

pub raised_lean : (e : ReadError) (count : ℕ) → MayStopLean e count → StoreMayStopLean (read_error e) count
raised_lean reads.Memory count may = absurd (may.1 refl)
raised_lean e count may = (raised_roomy e count may.0, λ is. cc)

-- a part was refused
pub finds_part_fails : {S X Y Z : Type 0} {May : ReadError → ℕ → Type 0} {StoreMay : DeserializeError → ℕ → Type 0} {is_known : S → Type 0} {left : S → List ℕ} {failures : S → Failures} {old new : S} {i k : ℕ} {view : X → Y} {e : ReadError} {reading : List ℕ → Result (Y × List ℕ) (Cause × List ℕ)} {Encodes : List ℕ → Y → Type 0} {HasError : List ℕ → Cause → Type 0}
    (B : List ℕ → Z → Type 0) (Q : List ℕ → Refusal → Type 0) → ((e : ReadError) (n : ℕ) → May e n → StoreMay (read_error e) n) → ((source : S) → is_known source → AllBytes (left source)) → Agrees UnexpectedEnd reading Encodes HasError → ((w : List ℕ) (c : Cause) → HasError w c → Q w (corrupted c))
    → TakesIf May is_known left failures old i new k view (Err e) reading → FindsIf StoreMay is_known left failures old i new k (Err (read_error e)) B Q
finds_part_fails {left = left} {failures = failures} {old = old} {new = new} {k = k} {e = e} B Q raise are_bytes agrees map h =
    record { found = λ t. let p = h.taken t in part_shown e Q agrees map (left old) p.prefix (left new) k (are_bytes old t) p.joined (h.gives t p.prefix p.joined); taken = h.taken; stays_known = h.stays_known; counts = raised_counts e (failures old) (failures new) h.counts; count_grows = h.count_grows; may_stop = raise e k h.may_stop }

-- ---- parts of the store's own

read_found : {X Y : Type 0} (view : X → Y) {reading : List ℕ → Result (Y × List ℕ) (Refusal × List ℕ)} {Encodes : List ℕ → Y → Type 0} {HasError : List ℕ → Refusal → Type 0}
    → Agrees (corrupted UnexpectedEnd) reading Encodes HasError → (x : X) (old new : List ℕ) → AllBytes old → reading old ≡ Ok (view x, new) → Begins (λ b. Encodes b (view x)) old new
read_found view agrees x old new small e = let p = agrees.sound old (view x, new) small e in record { prefix = p.0; joined = p.2; encoded = p.1 }

-- a part was read
pub finds_read : {S X Y : Type 0} {is_known : S → Type 0} {left : S → List ℕ} {failures : S → Failures} {old new : S} {i k : ℕ} {view : X → Y} {x : X} {reading : List ℕ → Result (Y × List ℕ) (Refusal × List ℕ)} {Encodes : List ℕ → Y → Type 0} {HasError : List ℕ → Refusal → Type 0}
    → ((source : S) → is_known source → AllBytes (left source)) → Agrees (corrupted UnexpectedEnd) reading Encodes HasError → store.StoreTakesIf store.StoreMayStopLean is_known left failures old i new k view (Ok x) reading
    → FindsIf StoreMayStop is_known left failures old i new k (Ok x) (λ b x. Encodes b (view x)) (λ w f. ⊥)
finds_read {left = left} {old = old} {new = new} {view = view} {x = x} are_bytes agrees h =
    record { found = λ t. read_found view agrees x (left old) (left new) (are_bytes old t) (read_ok h t); taken = h.taken; stays_known = h.stays_known; counts = h.counts; count_grows = h.count_grows; may_stop = tt }

read_shown : {Y : Type 0} {reading : List ℕ → Result (Y × List ℕ) (Refusal × List ℕ)} {Encodes : List ℕ → Y → Type 0} {HasError : List ℕ → Refusal → Type 0} (s : Stop Refusal) (Q : List ℕ → Refusal → Type 0)
    → Agrees (corrupted UnexpectedEnd) reading Encodes HasError → ((w : List ℕ) (r : Refusal) → HasError w r → Q w r) → (old taken new : List ℕ) (count : ℕ) → AllBytes old → old ≡ taken ++ new → Stops s reading taken new count
    → GivesStop (corrupted UnexpectedEnd) Q old new count s
read_shown {reading = reading} (InputError f) Q agrees map old taken new count small joined h =
    let e = ap reading joined ∙ h in
    record { stands = map old f (agrees.refused old f new small e); shows = shows_map (λ c. c) (λ f e. e) old new f map (shows_by agrees old new f small e) }
read_shown (Uncounted f) Q agrees map old taken new count small joined h = (h.0, early_map (λ c. c) old new f map (early_by agrees old taken new f small joined h.1))
read_shown (Failed kind) Q agrees map old taken new count small joined h = tt
read_shown Short Q agrees map old taken new count small joined h = tt
read_shown Never Q agrees map old taken new count small joined h = h

-- a part was refused
pub finds_read_fails : {S X Y Z : Type 0} {is_known : S → Type 0} {left : S → List ℕ} {failures : S → Failures} {old new : S} {i k : ℕ} {view : X → Y} {e : DeserializeError} {reading : List ℕ → Result (Y × List ℕ) (Refusal × List ℕ)} {Encodes : List ℕ → Y → Type 0} {HasError : List ℕ → Refusal → Type 0}
    (B : List ℕ → Z → Type 0) (Q : List ℕ → Refusal → Type 0) → ((source : S) → is_known source → AllBytes (left source)) → Agrees (corrupted UnexpectedEnd) reading Encodes HasError → ((w : List ℕ) (r : Refusal) → HasError w r → Q w r)
    → store.StoreTakesIf store.StoreMayStopLean is_known left failures old i new k view (Err e) reading → FindsIf StoreMayStopLean is_known left failures old i new k (Err e) B Q
finds_read_fails {left = left} {old = old} {new = new} {k = k} {e = e} B Q are_bytes agrees map h =
    record { found = λ t. let p = h.taken t in read_shown (store_stop e) Q agrees map (left old) p.prefix (left new) k (are_bytes old t) p.joined (h.gives t p.prefix p.joined); taken = h.taken; stays_known = h.stays_known; counts = h.counts; count_grows = h.count_grows; may_stop = h.may_stop }

-- ---- readers of trees

-- what was read was read, whatever may stop the reader
pub finds_ok : {S E F X : Type 0} {stop0 : E → Stop F} {May0 : E → ℕ → Type 0} (stop : E → Stop F) (May : E → ℕ → Type 0) {end : F} {is_known : S → Type 0} {left : S → List ℕ} {failures : S → Failures} {old new : S} {i k : ℕ} {x : X} {R : List ℕ → X → Type 0} {I : List ℕ → F → Type 0}
    → FindsBy stop0 May0 end is_known left failures old i new k (Ok x) R I → FindsBy stop May end is_known left failures old i new k (Ok x) R I
finds_ok stop May p = record { found = p.found; taken = p.taken; stays_known = p.stays_known; counts = p.counts; count_grows = p.count_grows; may_stop = tt }

-- a part of a tree was read
pub finds_part_deep : {S X Y : Type 0} {May : ReadError → ℕ → Type 0} {is_known : S → Type 0} {left : S → List ℕ} {failures : S → Failures} {old new : S} {i k : ℕ} {view : X → Y} {x : X} {reading : List ℕ → Result (Y × List ℕ) (Cause × List ℕ)} {Encodes : List ℕ → Y → Type 0} {HasError : List ℕ → Cause → Type 0}
    → ((source : S) → is_known source → AllBytes (left source)) → Agrees UnexpectedEnd reading Encodes HasError → TakesIf May is_known left failures old i new k view (Ok x) reading
    → FindsDeepBy is_known left failures old i new k (Ok x) (λ b x. Encodes b (view x)) (λ w f. ⊥)
finds_part_deep are_bytes agrees h = finds_ok tree_stop StoreMayStopDeep (finds_part are_bytes agrees h)

-- an error that another reader tells is reported so of a tree too
told_so : (e : DeserializeError) → e ≢ errors.TooDeep → store_stop e ≡ tree_stop e
told_so errors.TooDeep other = absurd (other refl)
told_so _ other = refl

-- none of them is too deep
pub calm : (old new : Failures) (e : DeserializeError) → CountsStop (store_stop e) old new → e ≢ errors.TooDeep
calm old new errors.TooDeep h = absurd h
calm old new _ h = λ same. cc

pub roomy_deep : {S X : Type 0} {is_known : S → Type 0} {left : S → List ℕ} {failures : S → Failures} {old new : S} {i k : ℕ} (result : Result X DeserializeError) {R : List ℕ → X → Type 0} {I : List ℕ → Refusal → Type 0}
    → FindsIf StoreMayStopRoomy is_known left failures old i new k result R I → FindsDeepBy is_known left failures old i new k result R I
roomy_deep (Ok x) p = finds_ok tree_stop StoreMayStopDeep p
roomy_deep {left = left} {failures = failures} {old = old} {new = new} {k = k} (Err e) {I = I} p =
    let same = told_so e (calm (failures old) (failures new) e p.counts) in
    record {
      found = λ t. subst (GivesStop (corrupted UnexpectedEnd) I (left old) (left new) k) same (p.found t);
      taken = p.taken;
      stays_known = p.stays_known;
      counts = subst (λ s. CountsStop s (failures old) (failures new)) same p.counts;
      count_grows = p.count_grows;
      may_stop = inl p.may_stop;
    }
