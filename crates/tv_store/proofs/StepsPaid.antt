-- Decoders that are stepped, and what they take for the bytes that they read.
use Rattle.std.proofs.Common.{◌≡◌, ℕ, ◌+◌, ◌-◌, ◌≤◌, add-one, Bool, true, false, List, [], ◌++◌, length, Option, Some, None, Result, Ok, Err, refl, sym, ap, subst, ◌∙◌, arith, length-append, inl, inr}
use Rattle.std.specs.Prelude.{◌⊎◌, OnErr}
use Rattle.std.proofs.lemmas.Bool.{cases_lt}
use Rattle.tv_base.specs.declared.cause.Cause.TheVariants.{UnexpectedEnd}
use Rattle.tv_base.specs.Stop.{Taken}
use Rattle.tv_base.specs.declared.source.ByteSource.{Ghosts}
use Rattle.tv_base.proofs.TakeSteps.{Taken_none}
use Rattle.tv_builder.specs.Prefix.{Encoded}
use Rattle.tv_format.specs.Encoding.{NoLegacy}
use Rattle.tv_format.specs.InputError.{corrupted}
use Rattle.tv_reader.specs.Error.{store_stop}
use Rattle.tv_reader.specs.Finds.{Found}
use Rattle.tv_reader.specs.Version.{version_of}
use Rattle.tv_reader.specs.declared.error.DeserializeError.{DeserializeError}
use Rattle.tv_reader.specs.declared.version.DocStoreVersion.{DocStoreVersion}
use Rattle.tv_reading.specs.Paid.{PaidBy}
use Rattle.tv_reading.specs.Prefix.{parts_read, AllFinished, IsDone, IsMalformedNext}
use Rattle.tv_reading.specs.Steps.{IsFew, IsTakenWhole, Sees, Stepped}
use Rattle.tv_reading.specs.declared.reading.Reading.{Reading}
use Rattle.tv_reading.proofs.Paying.{paid_now}
use Rattle.tv_store.specs.Decoder.{IsPaidFor, IsStepped, ReadsStep, StaysPaid, StepsTo}
use Rattle.tv_store.specs.declared.direct_decoder.DirectDecoder.{DirectDecoder}
use Rattle.tv_store.specs.declared.direct_decoder.Step.{Step}

both : false ≡ true → ⊥
both e = absurd cc

failed_or_live : (failed : Bool) → (failed ≡ true) ⊎ (failed ≡ false)
failed_or_live true = inl refl
failed_or_live false = inr refl

finished_or_not : (announced : Option ℕ) (finished : ℕ) → AllFinished announced finished ⊎ (¬ AllFinished announced finished)
finished_or_not None finished = inr (λ done. done)
finished_or_not (Some n) finished = elim (cases_lt finished n) [
  | inl fewer ↦ inr (λ same. absurd (omega (arith, fewer, same)))
  | inr most ↦ elim (cases_lt n finished) [
    | inl more ↦ inr (λ same. absurd (omega (arith, more, same)))
    | inr few ↦ inl (omega (arith, most, few))
  ]
]

done_or_not : (r : Reading) → IsDone r ⊎ (¬ IsDone r)
done_or_not r = finished_or_not r.announced r.finished

-- where no object of an older store has been seen, none had been
none_before : {r : Reading} {left : List ℕ} (before after : Bool) → Sees r left before after → after ≡ false → before ≡ false
none_before false after seen none = refl
none_before true after seen none = absurd (both (sym none ∙ seen.still refl))

-- a decoder that has read nothing
pub paid_at_start : (d : DirectDecoder) → d.failed ≡ false → parts_read d.reading ≡ [] → d.count ≡ 0 → IsPaidFor d
paid_at_start d not_failed none zero_count =
    let v = version_of d.version in
    let start : Encoded NoLegacy v [] (parts_read d.reading) = subst (Encoded NoLegacy v []) (sym none) refl in
    record { paid = paid_now v d.reading [] d.count (d.sound not_failed) start (omega (arith, zero_count)); encoded = λ _. ([], start, zero_count) }

module _ {S : Type 0} (source : Ghosts S) {source_old source_new : S} {old new : DirectDecoder} {result : Result Step DeserializeError} (h : ReadsStep source source_old source_new old new result) where
  -- what encodes what has come then
  encoded_then : (answer : Result Step DeserializeError) (bytes : List ℕ) → Encoded NoLegacy (version_of old.version) bytes (parts_read old.reading) → old.count ≡ length bytes → new.legacy_seen ≡ false → Taken (source.left source_old) (source.left source_new) old.count new.count
      → OnErr answer (new.failed ≡ true) → new.failed ≡ false
      → Found store_stop (corrupted UnexpectedEnd) (λ b _. Stepped (version_of old.version) new.legacy_seen old.reading new.reading b) (IsMalformedNext (version_of old.version) old.reading) (source.left source_old) (source.left source_new) new.count answer
      → (all : List ℕ) × Encoded NoLegacy (version_of new.version) all (parts_read new.reading) × (new.count ≡ length all)
  encoded_then (Ok step) bytes encoded counted none taken marked not_failed f = (
    bytes ++ f.prefix,
    subst (λ w. Encoded NoLegacy (version_of w) (bytes ++ f.prefix) (parts_read new.reading)) (sym h.version) (f.encoded.plain none bytes encoded),
    omega (arith, taken.counted, counted, ap length f.joined, ap length taken.joined, length-append bytes f.prefix, length-append f.prefix (source.left source_new), length-append taken.prefix (source.left source_new)),
  )
  encoded_then (Err e) bytes encoded counted none taken marked not_failed found = absurd (both (sym not_failed ∙ marked))

  -- a decoder that is paid for still is after the next step
  pub still_paid : StaysPaid old new → Sees old.reading (source.left source_old) old.legacy_seen new.legacy_seen → source.is_known source_old → (old.legacy_seen ≡ false → IsPaidFor old) → new.legacy_seen ≡ false → IsPaidFor new
  still_paid stays seen known before none =
      let p = before (none_before old.legacy_seen new.legacy_seen seen none) in
      elim (failed_or_live old.failed) [
        | inl failed ↦ subst IsPaidFor (sym (h.refused failed).unchanged) p
        | inr not_failed ↦ elim (done_or_not old.reading) [
          | inl done ↦ subst IsPaidFor (sym (h.finished not_failed done).unchanged) p
          | inr more ↦
              let finds = h.finds not_failed more in
              let taken = finds.taken known in
              let so_far = p.encoded not_failed in
              record {
                paid = subst (PaidBy new.reading.builder) (omega (arith, taken.counted, so_far.2)) (stays not_failed so_far.0 so_far.1 none);
                encoded = λ is_live. encoded_then result so_far.0 so_far.1 so_far.2 none taken h.marked is_live (finds.found known);
              }
        ]
      ]

  -- one step more was made
  pub one_more : {version : DocStoreVersion} {n : ℕ} {first : S} → IsStepped source version n first source_old old → IsStepped source version (n + 1) first source_new new
  one_more {n = n} {first = first} made = record {
    start = made.start;
    nothing = made.nothing;
    uncounted = made.uncounted;
    not_failed = made.not_failed;
    same_version = made.same_version;
    stepped = subst (λ k. StepsTo source k first made.start source_new new) (sym (add-one n)) (source_old, old, result, made.stepped, h);
  }

  -- the source stays known, and what is taken of it is counted
  pub still_known : source.is_known source_old → source.is_known source_new
  still_known known = elim (failed_or_live old.failed) [
    | inl failed ↦ subst source.is_known (sym (h.refused failed).unread) known
    | inr not_failed ↦ elim (done_or_not old.reading) [
      | inl done ↦ subst source.is_known (sym (h.finished not_failed done).unread) known
      | inr more ↦ (h.finds not_failed more).stays_known known
    ]
  ]

  pub still_counted : source.is_known source_old → Taken (source.left source_old) (source.left source_new) old.count new.count
  still_counted known = elim (failed_or_live old.failed) [
    | inl failed ↦ unchanged (h.refused failed).unchanged (h.refused failed).unread
    | inr not_failed ↦ elim (done_or_not old.reading) [
      | inl done ↦ unchanged (h.finished not_failed done).unchanged (h.finished not_failed done).unread
      | inr more ↦ (h.finds not_failed more).taken known
    ]
  ]
    where
      unchanged : new ≡ old → source_new ≡ source_old → Taken (source.left source_old) (source.left source_new) old.count new.count
      unchanged same unread = subst (λ s. Taken (source.left source_old) (source.left s) old.count new.count) (sym unread) (subst (λ (d : DirectDecoder). Taken (source.left source_old) (source.left source_old) old.count d.count) (sym same) (Taken_none (source.left source_old) old.count))

-- ---- a step that is counted from a first number on

module _ (d at then new : DirectDecoder) (first : ℕ) (reading : at.reading ≡ d.reading) (begun : at.count ≡ first + d.count) (same : new.reading ≡ then.reading) (ended : new.count ≡ then.count - first) (seen : new.legacy_seen ≡ then.legacy_seen) where
  pub recounted_paid : at.version ≡ d.version → at.failed ≡ d.failed → at.count ≤ then.count → StaysPaid at then → StaysPaid d new
  recounted_paid version failed rises stays = λ not_failed bytes encoded none.
      let v = version_of at.version in
      let as_at = subst (λ (r : Reading). Encoded NoLegacy v bytes (parts_read r)) (sym reading) (subst (λ w. Encoded NoLegacy (version_of w) bytes (parts_read d.reading)) (sym version) encoded) in
      subst (λ (r : Reading). PaidBy r.builder (length bytes + (new.count - d.count))) (sym same)
      (subst (PaidBy then.reading.builder) (omega (arith, begun, ended, rises)) (stays (failed ∙ not_failed) bytes as_at (sym seen ∙ none)))

  pub recounted_few : (left : List ℕ) → IsFew at.reading left at.count then.count → IsFew d.reading left d.count new.count
  recounted_few left few = elim few [
    | inl most ↦ inl (omega (arith, most, begun, ended))
    | inr whole ↦ inr (subst (λ r. IsTakenWhole r left) reading whole)
  ]

-- nothing was read
pub rests_paid : (old new : DirectDecoder) → new.reading ≡ old.reading → StaysPaid old new
rests_paid old new same = λ not_failed bytes encoded none.
    subst (λ (r : Reading). PaidBy r.builder (length bytes + (new.count - old.count))) (sym same) (paid_now (version_of old.version) old.reading bytes _ (old.sound not_failed) encoded (omega arith))
