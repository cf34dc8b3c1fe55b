-- What a buffered reader has left, where bytes were taken of its buffer.
use Rattle.std.proofs.Common.{ℕ, ◌≡◌, ◌<◌, ◌==◌, Bool, true, false, List, [], ◌∷◌, ◌++◌, length, take, drop, Option, Some, None, sym, ap, ◌∙◌, subst, arith, append_assoc}
use Rattle.std.specs.Prelude.{IsSome, unwrap_or, if◌then◌else◌}
use Rattle.std.proofs.lemmas.List.{take-append-drop}
use Rattle.std.specs.Io.Buffered.{reader_buffer, reader_capacity, reader_inner, reader_remaining}
use Rattle.std.specs.Io.KnownBytes.{Consumes, prepend_known}
use Rattle.std.specs.declared.io.buffered.BufReader.{BufReader}
use Rattle.tv_base.specs.Source.{AllBytes}
use Rattle.tv_io.specs.Buffered.{TakesBuffered}
use Rattle.tv_io.proofs.Remaining.{still_left}

step : (none : Bool) (known : Option (List ℕ)) (old new taken : List ℕ) → old ≡ taken ++ new
    → Consumes (if none then None else prepend_known old known) (if none then None else prepend_known new known) taken
step true known old new taken e = tt
step false None old new taken e = tt
step false (Some xs) old new taken e = ap (λ l. l ++ xs) e ∙ append_assoc taken new xs

-- bytes that were tested to be some
pub some_shown : (shown : List ℕ) → false ≡ (length shown == 0) → 0 < length shown
some_shown [] test = absurd (cc)
some_shown (b ∷ bs) test = omega arith

-- the first n bytes of the buffer
pub taken_off : {R A : Type 0} (old new : BufReader R A) (n : ℕ) → reader_buffer new ≡ drop n (reader_buffer old) → reader_inner new ≡ reader_inner old → reader_capacity new ≡ reader_capacity old
    → TakesBuffered old new (take n (reader_buffer old))
taken_off old new n rest uncalled same_size = record {
  joined = sym (take-append-drop n (reader_buffer old)) ∙ ap (λ l. take n (reader_buffer old) ++ l) (sym rest);
  uncalled = uncalled;
  same_size = same_size;
}

module _ {R A : Type 0} (remaining : R → Option (List ℕ)) (old new : BufReader R A) (taken : List ℕ) where
  consumed : TakesBuffered old new taken → Consumes (reader_remaining remaining old) (reader_remaining remaining new) taken
  consumed t =
      subst (λ (size : ℕ). Consumes (reader_remaining remaining old) (if size == 0 then None else prepend_known (reader_buffer new) (remaining (reader_inner new))) taken) (sym t.same_size)
      (subst (λ (inner : R). Consumes (reader_remaining remaining old) (if reader_capacity old == 0 then None else prepend_known (reader_buffer new) (remaining inner)) taken) (sym t.uncalled)
      (step (reader_capacity old == 0) (remaining (reader_inner old)) (reader_buffer old) (reader_buffer new) taken t.joined))

  abbrev KnownBytes : BufReader R A → Type 0
  KnownBytes r = IsSome (reader_remaining remaining r) × AllBytes (unwrap_or (reader_remaining remaining r) [])

  -- the bytes stay known
  pub still_buffered : TakesBuffered old new taken → KnownBytes old → KnownBytes new
  still_buffered t known = still_left _ _ taken (consumed t) known

  -- what was taken are the first of the bytes that were left
  pub left_behind : TakesBuffered old new taken → KnownBytes old → unwrap_or (reader_remaining remaining old) [] ≡ taken ++ unwrap_or (reader_remaining remaining new) []
  left_behind t known = joined _ _ taken (consumed t) known.0
    where
      joined : (before after : Option (List ℕ)) (bytes : List ℕ) → Consumes before after bytes → IsSome before → unwrap_or before [] ≡ bytes ++ unwrap_or after []
      joined (Some xs) (Some ys) bytes e known = e
      joined (Some xs) None bytes e known = absurd e
      joined None after bytes e known = absurd (cc)
