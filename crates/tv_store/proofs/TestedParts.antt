-- Limits that are tested after each part.
use Rattle.std.proofs.Common.{◌≡◌, ℕ, ◌+◌, ◌≤◌, Bool, true, false, List, [], ◌∷◌, ◌++◌, length, Option, Some, None, Result, Ok, Err, refl, sym, ◌∙◌, ap, subst, append_assoc, arith, inl, inr}
use Rattle.std.specs.Option.{is_some}
use Rattle.tv_base.specs.Parts.{Begins}
use Rattle.tv_base.specs.Stop.{Taken}
use Rattle.tv_builder.proofs.PairBuilding.{heap_stands}
use Rattle.tv_builder.specs.Builder.{built, state_of, heap_so_far}
use Rattle.tv_builder.specs.Prefix.{Encoded}
use Rattle.tv_builder.specs.State.{State, in_lists, lists_of}
use Rattle.tv_builder.specs.StateHeap.{state_heap}
use Rattle.tv_builder.specs.TreeBytes.{document_heap}
use Rattle.tv_format.specs.Tree.{Document}
use Rattle.tv_format.specs.Version.{Version}
use Rattle.tv_reader.specs.Legacy.{Legacy}
use Rattle.tv_reader.specs.Version.{version_of}
use Rattle.tv_reader.specs.declared.error.DeserializeError.{DeserializeError}
use Rattle.tv_reader.specs.declared.version.DocStoreVersion.{DocStoreVersion}
use Rattle.tv_reading.proofs.States.{is_state}
use Rattle.tv_reading.specs.Prefix.{parts_at, parts_read, IsPlace, IsSound}
use Rattle.tv_reading.specs.Steps.{HasFirstByte, IsFew, Stepped}
use Rattle.tv_reading.specs.declared.reading.Reading.{Reading}
use Rattle.tv_store.proofs.WithinLimits.{past_none}
use Rattle.tv_store.specs.Blocks.{as_read_within}
use Rattle.tv_store.specs.Limits.{CameWithin, Checks, IsNextPart, StandsWithin, TakenWithin, Told, and_part, ends_part, has_come, nothing}
use Rattle.tv_store.specs.declared.limits.LimitedReadError.{LimitedReadError}
use Rattle.tv_store.specs.declared.limits.LimitedReadError.TheVariants as limited
use Rattle.tv_store.specs.declared.limits.ReadLimit.{ReadLimit}
use Rattle.tv_store.specs.declared.limits.ReadLimit.TheVariants as limit
use Rattle.tv_store.specs.declared.limits.ReadLimits.{ReadLimits}

-- what has come passes no limit
abbrev pub Passes : ReadLimits → Reading → Type 0
Passes limits r = Checks limits (length (heap_so_far r.builder)) (length (lists_of (state_of r.builder))) None

-- what was taken came within the limits, and encodes what has come
pub record Came (v : Version) (limits : ReadLimits) (r : Reading) (old new : List ℕ) : Type 0 where
  pub taken : List ℕ
  pub joined : old ≡ taken ++ new
  pub came : CameWithin v limits taken
  pub encoded : Encoded Legacy v taken (parts_read r)

-- ---- at the start

fresh_at : (limits : ReadLimits) (a f : Option ℕ) (d : Document) (s : State) → IsPlace a d f s → parts_at a d f s ≡ [] → Checks limits (length (state_heap (document_heap [] d) s)) (length (lists_of s)) None
fresh_at limits None None d s place none =
    subst (λ z. Checks limits (length (state_heap (document_heap [] d) z)) (length (lists_of z)) None) (sym place.1)
    (subst (λ z. Checks limits (length (document_heap [] z)) 0 None) (sym place.0) (past_none limits.depth, past_none limits.heap_bytes))
fresh_at limits None (Some f) d s place none = absurd place
fresh_at limits (Some n) None d s place none = absurd (cc)
fresh_at limits (Some n) (Some f) d s place none = absurd (cc)

pub fresh : (limits : ReadLimits) (r : Reading) → IsSound r → parts_read r ≡ [] → Passes limits r
fresh limits r sound none = subst (λ h. Checks limits (length h) (length (lists_of (state_of r.builder))) None) (sym (heap_stands r.builder)) (fresh_at limits r.announced r.field (built r.builder) (state_of r.builder) sound.place none)

pub none_came : (v : Version) (limits : ReadLimits) (r : Reading) (bytes : List ℕ) → parts_read r ≡ [] → Came v limits r bytes bytes
none_came v limits r bytes none = record { taken = []; joined = refl; came = nothing; encoded = subst (Encoded Legacy v []) (sym none) refl }

-- where no limit was found to be passed
pub passed_none : (limits : ReadLimits) (r : Reading) (passed : Option ReadLimit) → Checks limits (length (heap_so_far r.builder)) (length (lists_of (state_of r.builder))) passed → is_some passed ≡ false → Passes limits r
passed_none limits r None checks none = checks
passed_none limits r (Some l) checks none = absurd (cc)

-- ---- a part more

module _ (v : Version) (limits : ReadLimits) {old mid : List ℕ} (r : Reading) (sound : IsSound r) (passes : Passes limits r) (c : Came v limits r old mid) where
  abbrev within : StandsWithin v limits c.taken
  within = record {
    announced = r.announced;
    finished = built r.builder;
    field = r.field;
    state = state_of r.builder;
    is = is_state r.builder;
    place = sound.place;
    encoded = c.encoded;
    tested = subst (λ h. Checks limits (length h) (length (lists_of (state_of r.builder))) None) (heap_stands r.builder) passes;
  }

  next_part : (seen : Bool) (after : Reading) (part : List ℕ) → Stepped v seen r after part → IsNextPart true within part
  next_part seen after part s = elim s.in_pieces [
    | inl few ↦ inl few
    | inr whole ↦ inr ((whole.0.0.0, whole.0.0.1, whole.0.1), whole.1)
  ]

  pub part_came : {new : List ℕ} (w : Version) → w ≡ v → (seen : Bool) (after : Reading) → Begins (λ b. Stepped w seen r after b) mid new → Came v limits after old new
  part_came {new = new} w same seen after h = let s = subst (λ z. Begins (λ b. Stepped z seen r after b) mid new) same h in record {
    taken = c.taken ++ s.prefix;
    joined = c.joined ∙ ap (λ z. c.taken ++ z) s.joined ∙ sym (append_assoc c.taken s.prefix new);
    came = and_part c.taken s.prefix c.came within (next_part seen after s.prefix s.encoded);
    encoded = s.encoded.goes c.taken c.encoded;
  }

  behind : {new : List ℕ} (is_whole : Bool) (part : List ℕ) → mid ≡ part ++ new → IsNextPart is_whole within part → Begins (TakenWithin v limits is_whole) old new
  behind {new = new} is_whole part joined next = record {
    prefix = c.taken ++ part;
    joined = c.joined ∙ ap (λ z. c.taken ++ z) joined ∙ sym (append_assoc c.taken part new);
    encoded = record { before = c.taken; last = part; joined = refl; came = c.came; within = within; part = next };
  }

  -- it was the last
  pub part_ends : {new : List ℕ} (w : Version) → w ≡ v → (seen : Bool) (after : Reading) → Begins (λ b. Stepped w seen r after b) mid new → Begins (TakenWithin v limits true) old new
  part_ends {new = new} w same seen after h = let s = subst (λ z. Begins (λ b. Stepped z seen r after b) mid new) same h in behind true s.prefix s.joined (next_part seen after s.prefix s.encoded)

  begun : (new : List ℕ) (i k : ℕ) (part : List ℕ) → mid ≡ part ++ new → k ≡ i + length part → IsFew r mid i k → IsNextPart false within part
  begun new i k part joined counted (inl most) = inl (omega (arith, most, counted))
  begun new i k [] joined counted (inr whole) = inl (omega arith)
  begun new i k (b ∷ bs) joined counted (inr whole) = inr (
    whole.0.0,
    whole.0.1,
    elim whole.1 [
      | inl seven ↦ inl (subst (HasFirstByte 7) joined seven)
      | inr eight ↦ inr (subst (HasFirstByte 8) joined eight)
    ],
  )

  -- it was refused
  pub part_breaks : {new : List ℕ} {i k : ℕ} → Taken mid new i k → IsFew r mid i k → Begins (TakenWithin v limits false) old new
  part_breaks {new = new} {i = i} {k = k} t few = behind false t.prefix t.joined (begun new i k t.prefix t.joined t.counted few)

-- none was read
pub no_part : (v : Version) (limits : ReadLimits) {old mid : List ℕ} (r : Reading) → IsSound r → Passes limits r → Came v limits r old mid → Begins (TakenWithin v limits false) old mid
no_part v limits r sound passes c = behind v limits r sound passes c false [] refl (inl (omega arith))

-- ---- what is said of it

begun_part : {v : Version} {limits : ReadLimits} {bytes : List ℕ} (stands : StandsWithin v limits bytes) (is_whole : Bool) (part : List ℕ) → IsNextPart true stands part → IsNextPart is_whole stands part
begun_part stands true part next = next
begun_part stands false part (inl few) = inl few
begun_part stands false part (inr whole) = inr whole.0

pub taken_part : {v : Version} {limits : ReadLimits} {old new : List ℕ} (is_whole : Bool) → Begins (TakenWithin v limits true) old new → Begins (TakenWithin v limits is_whole) old new
taken_part is_whole b =
    let t = b.encoded in
    record { prefix = b.prefix; joined = b.joined; encoded = record { before = t.before; last = t.last; joined = t.joined; came = t.came; within = t.within; part = begun_part t.within is_whole t.last t.part } }

pub of_version : {w : DocStoreVersion} {limits : ReadLimits} {is_whole : Bool} {old new : List ℕ} (v : DocStoreVersion) → w ≡ v → Begins (TakenWithin (version_of w) limits is_whole) old new → Begins (TakenWithin (version_of v) limits is_whole) old new
of_version {limits = limits} {is_whole = is_whole} {old = old} {new = new} v same b = subst (λ z. Begins (TakenWithin (version_of z) limits is_whole) old new) same b

-- an error that came before a part had come
pub told_part : {v : Version} {limits : ReadLimits} {old new : List ℕ} (e : DeserializeError) (all : Bool) (said : LimitedReadError) → Told all e said → Begins (TakenWithin v limits false) old new → Begins (TakenWithin v limits (ends_part said)) old new
told_part e all (limited.Read f) told b = b
told_part e all (limited.Limit limit.Bytes) told b = b
told_part e all (limited.Limit limit.HeapBytes) told b = absurd told
told_part e all (limited.Limit limit.Depth) told b = absurd told

-- what was read of a block, whatever the document is
pub same_come : {D : Type 0} (next : Result Bool LimitedReadError) (document : D) → has_come (as_read_within next document) ≡ has_come (as_read_within next (tt {0}))
same_come (Ok true) document = refl
same_come (Ok false) document = refl
same_come (Err e) document = refl

-- few bytes from the start on
pub few_taken : (v : Version) (limits : ReadLimits) (taken : List ℕ) → length taken ≤ 4096 → TakenWithin v limits false taken
few_taken v limits taken few = record {
  before = [];
  last = taken;
  joined = refl;
  came = nothing;
  within = record { announced = None; finished = []; field = None; state = in_lists []; is = (tt, tt); place = (refl, refl); encoded = refl; tested = (past_none limits.depth, past_none limits.heap_bytes) };
  part = inl few;
}
