-- The next of several items, and what is said of it whole.
use Rattle.std.proofs.Common.{◌≡◌, ◌+◌, ◌<◌, ℕ, List, Some, Result, Ok, Err, true, false, refl, arith}
use Rattle.std.specs.Prelude.{is_err}
use Rattle.tv_base.specs.declared.source.ByteSource.{Ghosts}
use Rattle.tv_format.specs.Version.{Version}
use Rattle.tv_reader.proofs.DepthSteps.{err_of}
use Rattle.tv_reader.specs.Version.{version_of}
use Rattle.tv_reader.specs.declared.error.DeserializeError.{DeserializeError}
use Rattle.tv_typed.specs.Depths.{AtValue, WhereTooDeep, WhereRead}
use Rattle.tv_typed.specs.Items.{ReadsNext}
use Rattle.tv_typed.specs.Values.{EncodesAs, NextRefused, RefusalsExclude}
use Rattle.tv_typed.specs.declared.de.ValueDeserialize.{Ghosts as ValueGhosts}
use Rattle.tv_typed.specs.Lists.{NextItem, NextItemRefused}
use Rattle.tv_typed.specs.Reads.{ReadsItem}
use Rattle.tv_typed.specs.Typed.{Deserializes}
use Rattle.tv_typed.specs.declared.store_reader.StoreReader.{StoreReader}
use Rattle.tv_typed.proofs.DeserializeSteps.{goes_as, next_only}
use Rattle.tv_typed.proofs.ItemSteps.{item_fails}

-- it is refused, and the place stays
pub item_refused : {S X : Type 0} {source : Ghosts S} {old new : StoreReader S} {e : DeserializeError} (Item : Version → List ℕ → X → Type 0) (Refused : Version → List ℕ → DeserializeError → Type 0) (TooDeep Nests : Version → ℕ → List ℕ → List ℕ → Type 0) (announced position : ℕ)
    → position < announced → Deserializes {X = X} source old new (Err e) (Item (version_of old.version)) (Refused (version_of old.version)) → WhereTooDeep {X = X} source old new (Err e) TooDeep → new.has_failed ≡ true
    → ReadsItem {X = X} source Item Refused TooDeep Nests announced position old announced position new (Err e)
item_refused {old = old} {e = e} Item Refused TooDeep Nests announced position fewer h deep marks = record {
  announced = refl;
  position = omega arith;
  deserializes = item_fails (Item (version_of old.version)) (Refused (version_of old.version)) position announced fewer h;
  deep = λ o t is. (fewer, deep o t (err_of e _ is));
  within = λ o t is. absurd cc;
  marks_failure = marks;
  ended = λ o none. absurd (omega (arith, fewer, none));
}

-- it is read, and the place goes on
pub item_given : {S X : Type 0} {source : Ghosts S} {old new : StoreReader S} {x : X} (Item : Version → List ℕ → X → Type 0) (Refused : Version → List ℕ → DeserializeError → Type 0) (TooDeep Nests : Version → ℕ → List ℕ → List ℕ → Type 0) (announced position : ℕ)
    → position < announced → Deserializes source old new (Ok x) (Item (version_of old.version)) (Refused (version_of old.version)) → WhereRead {X = X} source old new (Ok x) Nests → new.has_failed ≡ false
    → ReadsItem source Item Refused TooDeep Nests announced position old announced (position + 1) new (Ok (Some x))
item_given {old = old} {x = x} Item Refused TooDeep Nests announced position fewer h within marks = record {
  announced = refl;
  position = refl;
  deserializes = goes_as (Some x) (NextItem (Item (version_of old.version)) position announced) (NextItemRefused (Refused (version_of old.version)) position announced) (λ a s. (fewer, s)) h;
  deep = λ o t is. absurd cc;
  within = λ o t is. (fewer, within o t refl);
  marks_failure = marks;
  ended = λ o none. absurd (omega (arith, fewer, none));
}

-- the next value, whole
pub next_read : {S X : Type 0} {source : Ghosts S} {old new : StoreReader S} {result : Result X DeserializeError} (value : ValueGhosts X) → RefusalsExclude value.is value.refused
    → Deserializes source old new result (EncodesAs value.is (version_of old.version)) (NextRefused value.refused (version_of old.version)) → new.has_failed ≡ is_err result
    → WhereTooDeep source old new result (AtValue value.deep) → WhereRead source old new result (AtValue value.within) → ReadsNext source value old new result
next_read {old = old} value excludes h marks deep within = record { deserializes = h; only = next_only value.is value.refused excludes (version_of old.version) h; marks_failure = marks; deep = deep; within = within }
