-- What the calls of a builder leave where each is made in its place.
use Rattle.std.proofs.Common.{◌≡◌, ℕ, false, Result, Ok, Err, subst}
use Rattle.tv_builder.specs.declared.errors.BuildError.{BuildError}
use Rattle.tv_builder.specs.declared.errors.BuildError.TheVariants.{AlreadyFailed, OutOfPlace, NotUtf8, HeapFull, Memory}
use Rattle.tv_builder.specs.State.{State, and_end}
use Rattle.tv_builder.specs.declared.pair_builder.PairBuilder.{PairBuilder}
use Rattle.tv_builder.specs.Builder.{state_of, Overfull, Goes, BuildsIf, Builds, HasAllBytes, HasContent, EndsIf, Ends, IsComplete, Finished, FinishesIf, Finishes}

abbrev pub Called : PairBuilder → PairBuilder → State → Result (Unit {0}) BuildError → Type 0
Called old new after (Ok x) = Goes old new after
Called old new after (Err HeapFull) = Overfull old after
Called old new after (Err Memory) = Unit {0}
Called old new after (Err _) = ⊥

called_live : (old new : PairBuilder) (in_place fits : Type 0) (after : State → State) (r : Result (Unit {0}) BuildError) → in_place → BuildsIf false old new in_place fits after r → Called old new (after (state_of old)) r
called_live old new in_place fits after (Ok x) here h = h.1
called_live old new in_place fits after (Err AlreadyFailed) here h = absurd h
called_live old new in_place fits after (Err OutOfPlace) here h = absurd (h.0 here)
called_live old new in_place fits after (Err NotUtf8) here h = absurd h
called_live old new in_place fits after (Err HeapFull) here h = h.2
called_live old new in_place fits after (Err Memory) here h = tt

pub called : (old new : PairBuilder) (in_place fits : Type 0) (after : State → State) (r : Result (Unit {0}) BuildError) → old.failed ≡ false → in_place → Builds old new in_place fits after r → Called old new (after (state_of old)) r
called old new in_place fits after r not_failed here h = called_live old new in_place fits after r here (subst (λ z. BuildsIf z old new in_place fits after r) not_failed h)

-- at the end of open bytes
abbrev pub CalledEnd : PairBuilder → PairBuilder → Result (Unit {0}) BuildError → Type 0
CalledEnd old new (Ok x) = Goes old new (and_end (state_of old)) × HasContent (state_of old)
CalledEnd old new (Err NotUtf8) = ¬ HasContent (state_of old)
CalledEnd old new (Err HeapFull) = HasContent (state_of old) × Overfull old (and_end (state_of old))
CalledEnd old new (Err Memory) = HasContent (state_of old)
CalledEnd old new (Err _) = ⊥

ended_live : (old new : PairBuilder) (r : Result (Unit {0}) BuildError) → HasAllBytes (state_of old) → EndsIf false old new r → CalledEnd old new r
ended_live old new (Ok x) all h = (h.2, h.1)
ended_live old new (Err AlreadyFailed) all h = absurd h
ended_live old new (Err OutOfPlace) all h = absurd (h.0 all)
ended_live old new (Err NotUtf8) all h = h.1
ended_live old new (Err HeapFull) all h = (h.1, h.3)
ended_live old new (Err Memory) all h = h.1

pub ended : (old new : PairBuilder) (r : Result (Unit {0}) BuildError) → old.failed ≡ false → HasAllBytes (state_of old) → Ends old new r → CalledEnd old new r
ended old new r not_failed all h = ended_live old new r all (subst (λ z. EndsIf z old new r) not_failed h)

-- where a value is complete
abbrev pub CalledFinish : PairBuilder → PairBuilder → ℕ → Result (Unit {0}) BuildError → Type 0
CalledFinish old new f (Ok x) = Finished old new f
CalledFinish old new f (Err Memory) = Unit {0}
CalledFinish old new f (Err _) = ⊥

finished_live : (old new : PairBuilder) (f : ℕ) (r : Result (Unit {0}) BuildError) → IsComplete (state_of old) → FinishesIf false old new f r → CalledFinish old new f r
finished_live old new f (Ok x) whole h = h
finished_live old new f (Err AlreadyFailed) whole h = absurd h
finished_live old new f (Err OutOfPlace) whole h = absurd (h.0 whole)
finished_live old new f (Err NotUtf8) whole h = absurd h
finished_live old new f (Err HeapFull) whole h = absurd h
finished_live old new f (Err Memory) whole h = tt

pub finished : (old new : PairBuilder) (f : ℕ) (r : Result (Unit {0}) BuildError) → old.failed ≡ false → IsComplete (state_of old) → Finishes old new f r → CalledFinish old new f r
finished old new f r not_failed whole h = finished_live old new f r whole (subst (λ z. FinishesIf z old new f r) not_failed h)
