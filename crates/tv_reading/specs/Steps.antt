-- What a step of a reader takes, and what has come then.
use Rattle.std.specs.Prelude.{◌≡◌, ℕ, ◌+◌, ◌<◌, ◌≤◌, ◌⊎◌, Bool, true, false, List, [], ◌∷◌, ◌++◌, length}
use Rattle.std.specs.Prelude.{Result, IsErrOf, OnErr, OnOk}
use Rattle.tv_base.specs.declared.source.ByteSource.{Ghosts}
use Rattle.tv_builder.specs.Prefix.{Encoded}
use Rattle.tv_reader.specs.Finds.{Finds}
use Rattle.tv_reader.specs.Legacy.{Legacy}
use Rattle.tv_reader.specs.declared.error.DeserializeError.{DeserializeError}
use Rattle.tv_reader.specs.declared.error.DeserializeError.TheVariants.{HeapFull}
use Rattle.tv_format.specs.Encoding.{NoLegacy}
use Rattle.tv_format.specs.Tree.{Entries}
use Rattle.tv_format.specs.Version.{Version}
use Rattle.tv_reading.specs.Kept.{Grows, KeepsPairs}
use Rattle.tv_reading.specs.Prefix.{parts_read, IsMalformedNext, IsSound, NoRoomBehind, ValueNext}
use Rattle.tv_reading.specs.Skip.{IsValueEncoding}
use Rattle.tv_reading.specs.declared.reading.Reading.{Reading}

-- whatever encodes what had come, with these bytes after it, encodes what has come now
abbrev pub Advances : (List ℕ → Entries → Type 0) → Version → Reading → Reading → List ℕ → Type 0
Advances IsLegacy version old new taken = (bytes : List ℕ) → Encoded IsLegacy version bytes (parts_read old)
    → Encoded IsLegacy version (bytes ++ taken) (parts_read new)

abbrev pub HasFirstByte : ℕ → List ℕ → Type 0
HasFirstByte code [] = ⊥
HasFirstByte code (first ∷ bytes) = first ≡ code

-- a pre-tokenized text, or an object as older stores hold it
abbrev pub IsTakenWhole : Reading → List ℕ → Type 0
IsTakenWhole reading bytes = ValueNext reading × (HasFirstByte 7 bytes ⊎ HasFirstByte 8 bytes)

-- this many bytes of those that were left were taken, whatever came of them: at most 4096, unless a value is
-- taken whole
abbrev pub IsFew : Reading → List ℕ → ℕ → ℕ → Type 0
IsFew old left before after = (after ≤ before + 4096) ⊎ IsTakenWhole old left

-- one value of this kind, and nothing after it
abbrev pub TakesWhole : Version → Reading → List ℕ → Type 0
TakesWhole version reading taken = IsTakenWhole reading taken × IsValueEncoding version taken

-- A step took these bytes: one at least, and at most 4096 unless a value was taken whole. Where no object of
-- an older store was seen, none
-- is encoded by them.
pub record Stepped (version : Version) (legacy_seen : Bool) (old new : Reading)
    (taken : List ℕ) : Type 0 where
  pub some : 0 < length taken
  pub in_pieces : (length taken ≤ 4096) ⊎ TakesWhole version old taken
  pub goes : Advances Legacy version old new taken
  pub plain : legacy_seen ≡ false → Advances NoLegacy version old new taken

-- Whether an object of an older store was seen: it still is, where it was; and one is seen where a value is
-- awaited and its code comes first.
pub record Sees (old : Reading) (left : List ℕ) (before after : Bool) : Type 0 where
  pub still : before ≡ true → after ≡ true
  pub first : before ≡ false → after ≡ true → ValueNext old × HasFirstByte 8 left

-- The promise of a step: it reads the next part, or says why there is none.
--   sound        After a part has come, what is read is sound.
--   grows        The heap has grown at its end.
--   after_error  After an error the finished pairs stay.
--   finds        The bytes that were taken encode the part, which has come; or they show the error. They are
--                counted.
--   no_room      It says that there is no room only where the part has none.
--   seen         It says where an object of an older store was seen.
--   at_most      At most 4096 bytes were taken, also where they are refused, unless a value is taken whole.
pub record ReadsPart {S : Type 0} (version : Version) (source : Ghosts S) (source_old source_new : S)
    (count_old count_new : ℕ) (seen_old seen_new : Bool) (old new : Reading)
    (result : Result (Unit {0}) DeserializeError) : Type 0 where
  pub sound : OnOk result (IsSound new)
  pub grows : OnOk result (Grows old new)
  pub after_error : OnErr result (KeepsPairs old new)
  pub finds : Finds source source_old count_old source_new count_new result
      (λ taken _. Stepped version seen_new old new taken) (IsMalformedNext version old)
  pub no_room : source.is_known source_old → IsErrOf result HeapFull
      → NoRoomBehind version old (source.left source_old)
  pub seen : source.is_known source_old → Sees old (source.left source_old) seen_old seen_new
  pub at_most : source.is_known source_old → IsFew old (source.left source_old) count_old count_new
