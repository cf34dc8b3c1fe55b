-- What a call leaves of a tree builder.
use Rattle.std.proofs.Common.{◌≡◌, ℕ, ◌+◌, ◌≤◌, Bool, false, List, [], ◌++◌, length, reverse, take, None, Result, Ok, Err, OnOk, OnErr, length-append, refl, sym, ◌∙◌, ap, subst, arith}
use Rattle.std.proofs.Props.{props}
use Rattle.std.specs.Coded.{Coded-set, le_prop}
use Rattle.std.proofs.Math.Logic.{∥∥₁_elim, ∥∥₁_map}
use Rattle.std.proofs.Math.Nat.{ℕ_set}
use Rattle.std.proofs.lemmas.List.{take-append-le, take_all, length-take, length-take-le}
use Rattle.tv_base.specs.Number.{vnum}
use Rattle.tv_base.specs.Sink.{IsPrefix}
use Rattle.tv_format.specs.TreeCode.{coded_text}
use Rattle.tv_heap.specs.Room.{document_room}
use Rattle.tv_heap.specs.Weight.{document_weight}
use Rattle.tv_builder.specs.declared.kinds.Awaits.{Awaits}
use Rattle.tv_builder.specs.declared.errors.BuildError.{BuildError}
use Rattle.tv_builder.specs.declared.errors.BuildError.TheVariants.{AlreadyFailed, OutOfPlace, NotUtf8, HeapFull, Memory}
use Rattle.tv_builder.specs.declared.building.Building.{Building}
use Rattle.tv_builder.specs.declared.kinds.BytesKind.TheVariants as kinds
use Rattle.tv_builder.specs.declared.heap_pairs.HeapPair.{HeapPair}
use Rattle.tv_builder.specs.declared.heap_pairs.HeapPairs.{HeapPairs}
use Rattle.tv_builder.specs.declared.pair_builder.PairBuilder.{PairBuilder}
use Rattle.tv_builder.specs.Builder.{built, state_of, heap_so_far, kept_heap, TakesBytes, HasAllBytes, HasContent, Goes, Fails, Overfull, BuildsIf, Builds, EndsIf, Ends}
use Rattle.tv_builder.specs.Finish.{HoldsPrefix, Empty, Settled}
use Rattle.tv_builder.specs.Given.{Given, pending_in}
use Rattle.tv_builder.specs.HeldPairs.{document_of}
use Rattle.tv_builder.specs.Holds.{Holds}
use Rattle.tv_builder.specs.Image.{ShowsBehind}
use Rattle.tv_builder.specs.Moves.{InState, MovesState, Over, Does}
use Rattle.tv_builder.specs.OneState.{StandsBehind, stands_of, same_behind, same_state}
use Rattle.tv_builder.specs.Shows.{ShowsLists, ShowsState, HoldsSomeState, frames_of, awaited_by}
use Rattle.tv_builder.specs.State.{State, complete, in_lists, in_bytes, written, and_end, awaited, state_room}
use Rattle.tv_builder.specs.StateHeap.{state_heap, full_length, missing}
use Rattle.tv_builder.specs.TreeBytes.{document_heap}
use Rattle.tv_builder.specs.Weight.{state_weight}
use Rattle.tv_builder.proofs.Counts.{awaited_is}
use Rattle.tv_builder.proofs.Documents.{same_document}
use Rattle.tv_builder.proofs.Images.{image_heap}
use Rattle.tv_builder.proofs.Kept.{Fields as HeapFields}
use Rattle.tv_builder.proofs.Sound.{fits_of}
use Rattle.tv_builder.proofs.Weighing.{written_weighs}
use Rattle.tv_builder.proofs.Within.{document_within, state_within, weight_room}

-- ---- the state

abbrev pub stands : (b : PairBuilder) → HoldsSomeState b.building
stands b = stands_of (kept_heap b) b.building b.state

-- a building that holds nothing after what is kept
pub none_shows : (kept : ℕ) (b : Building) → length b.heap.items ≤ kept → length b.heap.items ≤ 4294967295 → b.places.items ≡ [] → b.pending ≡ 0 → frames_of b ≡ [] → b.complete ≡ None → b.open ≡ None
    → ShowsBehind (take kept b.heap.items) b (in_lists [])
none_shows kept b within fits places pending frames none closed = record {
  shows = record {
    fits = fits;
    counted = pending ∙ ap pending_in (sym frames);
    is = (tt, tt);
    at = record { none = none; closed = closed; lists = subst (λ z. ShowsLists b.heap.items z b.places.items []) (sym frames) places };
  };
  image = λ i. record { heap = sym (take_all kept b.heap.items within) i; places = places i; frames = frames i; complete = none i };
}

abbrev pub none_behind : (kept : ℕ) (heap : List ℕ) (b : Building) → length b.heap.items ≤ kept → length b.heap.items ≤ 4294967295 → Empty heap b → StandsBehind (take kept b.heap.items) b
none_behind kept heap b within fits e = (in_lists [], ∣ none_shows kept b within fits e.places e.pending (ap reverse e.frames) e.complete e.closed ∣₁)

-- the same heap before it, said otherwise
abbrev pub behind_as : (base other : List ℕ) (b : Building) → other ≡ base → StandsBehind base b → StandsBehind other b
behind_as base other b e h = (h.0, subst (λ z. ∥ ShowsBehind z b h.0 ∥₁) (sym e) h.1)

-- all that stands after it are the bytes of the state
pub heap_behind : (base : List ℕ) (b : Building) (h : StandsBehind base b) → b.heap.items ≡ state_heap base h.0
heap_behind base b h = ∥∥₁_elim h.1 (Coded-set coded_text _ _) (λ p. ap (λ (g : Given). g.heap) p.image ∙ image_heap base h.0)

full_fits : (b : Building) (s : State) → ShowsState b s → length b.heap.items + missing s ≤ 4294967295
full_fits b (complete t) h = omega (arith, h.fits)
full_fits b (in_lists ls) h = omega (arith, h.fits)
full_fits b (in_bytes ls kind n bs) h =
    let stand = h.at.stand in
    omega (arith, stand.fits, stand.counted, ap length stand.joined, length-append stand.before (vnum n ++ bs), length-append (vnum n) bs)

pub full_behind : (base : List ℕ) (b : Building) (h : StandsBehind base b) → full_length base h.0 ≤ 4294967295
full_behind base b h = ∥∥₁_elim h.1 le_prop (λ p. omega (arith, full_fits b h.0 p.shows, ap length (heap_behind base b h)))

-- ---- what a call on the building leaves

abbrev pub Answer : Type 0
Answer = Result (Unit {0}) BuildError

-- it goes on, or what stood in the heap still stands before it
pub record Left (old mid : Building) (after : State → State) (r : Answer) : Type 0 where
  pub moves : OnOk r (MovesState old mid after)
  pub prefix : OnErr r (IsPrefix old.heap.items mid.heap.items)

pub does_left : (old mid : Building) (here well fits : Type 0) (after : State → State) (r : Answer) → Does old mid here well fits after r → Left old mid after r
does_left old mid here well fits after (Ok x) h = record { moves = h.2; prefix = tt }
does_left old mid here well fits after (Err OutOfPlace) h = record { moves = tt; prefix = h.1 }
does_left old mid here well fits after (Err NotUtf8) h = record { moves = tt; prefix = h.2 }
does_left old mid here well fits after (Err HeapFull) h = record { moves = tt; prefix = h.2 }
does_left old mid here well fits after (Err Memory) h = record { moves = tt; prefix = h.2 }
does_left old mid here well fits after (Err AlreadyFailed) h = absurd h

prefix_kept : (kept : ℕ) (old new : List ℕ) → IsPrefix old new → kept ≤ length old → take kept new ≡ take kept old
prefix_kept kept old new f h = ap (λ z. take kept z) f.1 ∙ take-append-le kept old f.0 h

-- the prefix that is kept is the same
pub same_prefix_kept : (old mid new : Building) (kept : ℕ) (failed failed_new : Bool) (after : State → State) (r : Answer) → kept ≤ length old.heap.items → Left old mid after r → Settled mid new kept failed failed_new r
    → (take kept new.heap.items ≡ take kept old.heap.items) × (kept ≤ length new.heap.items)
same_prefix_kept old mid new kept failed failed_new after (Ok x) h l s =
    let same_heap : new.heap.items ≡ mid.heap.items = ap (λ (b : Building). b.heap.items) s.ok in
    let grows = l.moves.grows in
    (ap (λ z. take kept z) same_heap ∙ prefix_kept kept old.heap.items mid.heap.items grows h, omega (arith, h, ap length same_heap, ap length grows.1, length-append old.heap.items grows.0))
same_prefix_kept old mid new kept failed failed_new after (Err e) h l s =
    let cut = prefix_kept kept old.heap.items mid.heap.items l.prefix h in
    let n : length mid.heap.items ≡ length old.heap.items + length l.prefix.0 = ap length l.prefix.1 ∙ length-append old.heap.items l.prefix.0 in
    let m : length (take kept mid.heap.items) ≡ kept = length-take-le kept mid.heap.items (omega (arith, h, n)) in
    (ap (λ z. take kept z) s.err.heap_is ∙ take_all kept (take kept mid.heap.items) (omega (arith, m)) ∙ cut, omega (arith, ap length s.err.heap_is, m))

pub cut_heap : (old mid new : Building) (kept : ℕ) (after : State → State) (e : BuildError) → kept ≤ length old.heap.items → Left old mid after (Err e) → Empty (take kept mid.heap.items) new → new.heap.items ≡ take kept old.heap.items
cut_heap old mid new kept after e h l c = c.heap_is ∙ prefix_kept kept old.heap.items mid.heap.items l.prefix h

-- what is known of each builder
pub record Fields (b : Building) (kept : ℕ) (ps : List HeapPair) : Type 0 where
  pub document : HoldsPrefix b.heap.items kept ps
  pub kept_within : kept ≤ length b.heap.items
  pub bytes : take kept b.heap.items ≡ document_heap [] document.0
  pub state : StandsBehind (take kept b.heap.items) b

abbrev pub cleared_stands : (mid new : Building) (kept : ℕ) → kept ≤ 4294967295 → Empty (take kept mid.heap.items) new → StandsBehind (take kept new.heap.items) new
cleared_stands mid new kept h c =
    let cut : length new.heap.items ≤ kept = omega (arith, ap length c.heap_is, length-take kept mid.heap.items) in
    none_behind kept (take kept mid.heap.items) new cut (omega (arith, cut, h)) c

abbrev pub moved_stands : (base : List ℕ) (old mid new : Building) (after : State → State) → StandsBehind base old → MovesState old mid after → new ≡ mid → StandsBehind base new
moved_stands base old mid new after h m e = (after h.0, ∥∥₁_map h.1 (λ b. subst (λ z. ShowsBehind base z (after h.0)) (sym e) (m.next base h.0 b)))

state_left : (old : PairBuilder) (mid new : Building) (failed_new : Bool) (after : State → State) (r : Answer) → Left old.building mid after r → Settled mid new old.kept old.failed failed_new r → StandsBehind (take old.kept new.heap.items) new
state_left old mid new failed_new after (Ok x) l s =
    behind_as (kept_heap old) (take old.kept new.heap.items) new (same_prefix_kept old.building mid new old.kept old.failed failed_new after (Ok x) old.kept_within l s).0
    (moved_stands (kept_heap old) old.building mid new after old.state l.moves s.ok)
state_left old mid new failed_new after (Err e) l s =
    let small = fits_of old.building (stands old) in
    cleared_stands mid new old.kept (omega (arith, small, old.kept_within)) s.err

pub fields_left : (old : PairBuilder) (mid new : Building) (failed_new : Bool) (after : State → State) (r : Answer) → Left old.building mid after r → Settled mid new old.kept old.failed failed_new r → Fields new old.kept old.pairs.items
fields_left old mid new failed_new after r l s =
    let prefix = same_prefix_kept old.building mid new old.kept old.failed failed_new after r old.kept_within l s in
    let document : HoldsPrefix new.heap.items old.kept old.pairs.items = subst (λ z. Holds z old.pairs.items) (sym prefix.0) old.document in
    let same = same_document (take old.kept new.heap.items) (kept_heap old) old.pairs.items old.pairs.items document old.document prefix.0 refl in
    record { document = document; kept_within = prefix.1; bytes = prefix.0 ∙ old.bytes ∙ ap (document_heap []) (sym same); state = state_left old mid new failed_new after r l s }

pub fields_does : (old : PairBuilder) (mid new : Building) (failed_new : Bool) (here well fits : Type 0) (after : State → State) (r : Answer) → Does old.building mid here well fits after r → Settled mid new old.kept old.failed failed_new r → Fields new old.kept old.pairs.items
fields_does old mid new failed_new here well fits after r d s = fields_left old mid new failed_new after r (does_left old.building mid here well fits after r d) s

-- the heap is that of the finished pairs, and after them that of what has come of the next value
pub heap_stands : (b : PairBuilder) → heap_so_far b ≡ state_heap (document_heap [] (built b)) (state_of b)
heap_stands b = heap_behind (kept_heap b) b.building b.state ∙ ap (λ base. state_heap base (state_of b)) b.bytes

-- what is kept of it is within the weight of the finished pairs
kept_weighs : (b : PairBuilder) → b.kept ≤ document_weight (built b)
kept_weighs b =
    let long = length-take-le b.kept (heap_so_far b) b.kept_within in
    let small = fits_of b.building (stands b) in
    omega (arith, long, document_within (kept_heap b) (built b) b.bytes (omega (arith, long, small, b.kept_within)))

-- the heap is within the weights of what it holds
pub heap_within : (b : PairBuilder) → length (heap_so_far b) ≤ b.kept + written (state_of b)
heap_within b =
    let heap = heap_behind (kept_heap b) b.building b.state in
    omega (arith, ap length heap, state_within (kept_heap b) (state_of b) (omega (arith, ap length heap, fits_of b.building (stands b))), length-take b.kept (heap_so_far b))

pub heap_weighs : (b : PairBuilder) → length (heap_so_far b) ≤ document_weight (built b) + state_weight (state_of b)
heap_weighs b = omega (arith, heap_within b, kept_weighs b, written_weighs b.building (stands b))

-- and what is kept of it is within the room of the finished pairs
pub kept_room : (b : PairBuilder) → b.kept ≤ document_room (built b)
kept_room b =
    let small = fits_of b.building (stands b) in
    weight_room b.kept (built b) (kept_weighs b) (omega (arith, small, b.kept_within))

-- ---- what the call says

built_same : (old new : PairBuilder) → take new.kept new.building.heap.items ≡ take old.kept old.building.heap.items → new.pairs.items ≡ old.pairs.items → built new ≡ built old
built_same old new e f = same_document (take new.kept new.building.heap.items) (take old.kept old.building.heap.items) new.pairs.items old.pairs.items new.document old.document e f

-- a call on the building ran and was settled
pub record Ran (old new : PairBuilder) (mid : Building) (after : State → State) (r : Answer) : Type 0 where
  pub not_failed : old.failed ≡ false
  pub left : Left old.building mid after r
  pub settled : Settled mid new.building old.kept old.failed new.failed r
  pub kept : new.kept ≡ old.kept
  pub pairs : new.pairs.items ≡ old.pairs.items

goes_on : (old new : PairBuilder) (mid : Building) (after : State → State) → Ran old new mid after (Ok tt) → Goes old new (after (state_of old))
goes_on old new mid after c =
    let moves = c.left.moves in
    let prefix = same_prefix_kept old.building mid new.building old.kept old.failed new.failed after (Ok tt) old.kept_within c.left c.settled in
    let base : take new.kept new.building.heap.items ≡ kept_heap old = ap (λ z. take z new.building.heap.items) c.kept ∙ prefix.0 in
    let state = moved_stands (kept_heap old) old.building mid new.building after old.state moves c.settled.ok in
    record {
      not_failed = c.settled.not_failed ∙ c.not_failed;
      document = built_same old new base c.pairs;
      pairs = c.pairs;
      kept = c.kept;
      state = same_behind (take new.kept new.building.heap.items) (kept_heap old) new.building new.state state;
      heap = heap_behind (kept_heap old) new.building state;
      fits = full_behind (kept_heap old) new.building state;
      grows = (moves.grows.0, ap (λ (b : Building). b.heap.items) c.settled.ok ∙ moves.grows.1);
    }

pub fails_now : (old new : PairBuilder) (mid : Building) (after : State → State) (e : BuildError) → Ran old new mid after (Err e) → Fails old new
fails_now old new mid after e c =
    let prefix = same_prefix_kept old.building mid new.building old.kept old.failed new.failed after (Err e) old.kept_within c.left c.settled in
    let small = fits_of old.building (stands old) in
    record {
      failed = c.settled.marked;
      document = built_same old new (ap (λ z. take z new.building.heap.items) c.kept ∙ prefix.0) c.pairs;
      pairs = c.pairs;
      kept = c.kept;
      state = same_behind (take new.kept new.building.heap.items) (take old.kept new.building.heap.items) new.building new.state (cleared_stands mid new.building old.kept (omega (arith, small, old.kept_within)) c.settled.err);
      heap = cut_heap old.building mid new.building old.kept after e old.kept_within c.left c.settled.err;
    }

-- the heap before the state is within the room of the finished pairs
overfull : (old : PairBuilder) (after : State → State) → ((base : List ℕ) (s : State) → ShowsBehind base old.building s → Over base (after s)) → Overfull old (after (state_of old))
overfull old after full =
    let bytes : 4294967296 ≤ full_length (kept_heap old) (after (state_of old)) = ∥∥₁_elim old.state.1 le_prop (λ b. omega (arith, (full (kept_heap old) (state_of old) b).bytes)) in
    let room : 4294967296 ≤ length (kept_heap old) + state_room (after (state_of old)) = ∥∥₁_elim old.state.1 le_prop (λ b. omega (arith, (full (kept_heap old) (state_of old) b).room)) in
    record { bytes = omega (arith, bytes); room = omega (arith, room, kept_room old, length-take old.kept (heap_so_far old)) }

-- `here` and `P` say the same, as do `well` and `Q`
builds_live : (old new : PairBuilder) (mid : Building) (here P fits : Type 0) (after : State → State) (r : Answer) → (here → P) → (P → here) → Does old.building mid here (Unit {0}) fits after r → Ran old new mid after r → BuildsIf false old new P fits after r
builds_live old new mid here P fits after (Ok x) to from d c = (to d.0, goes_on old new mid after c)
builds_live old new mid here P fits after (Err OutOfPlace) to from d c = ((λ p. d.0 (from p)), fails_now old new mid after OutOfPlace c)
builds_live old new mid here P fits after (Err HeapFull) to from d c = (to d.0, fails_now old new mid after HeapFull c, overfull old after d.3)
builds_live old new mid here P fits after (Err Memory) to from d c = (to d.0, d.3, fails_now old new mid after Memory c)
builds_live old new mid here P fits after (Err NotUtf8) to from d c = absurd (d.1 tt)
builds_live old new mid here P fits after (Err AlreadyFailed) to from d c = absurd d

ends_live : (old new : PairBuilder) (mid : Building) (here well : Type 0) (r : Answer) → (here → HasAllBytes (state_of old)) → (HasAllBytes (state_of old) → here) → (well → HasContent (state_of old)) → (HasContent (state_of old) → well)
    → Does old.building mid here well (Unit {0}) and_end r → Ran old new mid and_end r → EndsIf false old new r
ends_live old new mid here well (Ok x) to from is be d c = (to d.0, is d.1, goes_on old new mid and_end c)
ends_live old new mid here well (Err OutOfPlace) to from is be d c = ((λ p. d.0 (from p)), fails_now old new mid and_end OutOfPlace c)
ends_live old new mid here well (Err NotUtf8) to from is be d c = (to d.0, (λ q. d.1 (be q)), fails_now old new mid and_end NotUtf8 c)
ends_live old new mid here well (Err HeapFull) to from is be d c = (to d.0, is d.1, fails_now old new mid and_end HeapFull c, overfull old and_end d.3)
ends_live old new mid here well (Err Memory) to from is be d c = (to d.0, is d.1, fails_now old new mid and_end Memory c)
ends_live old new mid here well (Err AlreadyFailed) to from is be d c = absurd d

ran : (old new : PairBuilder) (mid : Building) (here well fits : Type 0) (after : State → State) (r : Answer) → old.failed ≡ false → Does old.building mid here well fits after r → Settled mid new.building old.kept old.failed new.failed r
    → new.kept ≡ old.kept → new.pairs.items ≡ old.pairs.items → Ran old new mid after r
ran old new mid here well fits after r not_failed d s kept pairs = record { not_failed = not_failed; left = does_left old.building mid here well fits after r d; settled = s; kept = kept; pairs = pairs }

builds : (old new : PairBuilder) (mid : Building) (here P fits : Type 0) (after : State → State) (r t : Answer) → (here → P) → (P → here) → old.failed ≡ false → Does old.building mid here (Unit {0}) fits after r
    → Settled mid new.building old.kept old.failed new.failed r → new.kept ≡ old.kept → new.pairs.items ≡ old.pairs.items → t ≡ r → Builds old new P fits after t
builds old new mid here P fits after r t to from not_failed d s kept pairs e =
    subst (λ z. BuildsIf z old new P fits after t) (sym not_failed)
    (subst (λ z. BuildsIf false old new P fits after z) (sym e) (builds_live old new mid here P fits after r to from d (ran old new mid here (Unit {0}) fits after r not_failed d s kept pairs)))

-- a call that belongs where something of this kind comes next
pub builds_next : (old new : PairBuilder) (mid : Building) (next : Awaits) (fits : Type 0) (after : State → State) (r t : Answer) → old.failed ≡ false
    → Does old.building mid (awaited_by old.building ≡ next) (Unit {0}) fits after r → Settled mid new.building old.kept old.failed new.failed r → new.kept ≡ old.kept → new.pairs.items ≡ old.pairs.items → t ≡ r
    → Builds old new (awaited (state_of old) ≡ next) fits after t
builds_next old new mid next fits after r t not_failed d s kept pairs e =
    let same_next = awaited_is old.building (stands old) in
    builds old new mid (awaited_by old.building ≡ next) (awaited (state_of old) ≡ next) fits after r t (λ p. sym same_next ∙ p) (λ p. same_next ∙ p) not_failed d s kept pairs e

-- what holds of the state that is held, told from the building
in_state : (old : PairBuilder) (P : State → Type 0) → ((s : State) → IsProp (P s)) → InState old.building P → P (state_of old)
in_state old P prop all = ∥∥₁_elim old.state.1 (prop (state_of old)) (λ b. all (state_of old) b.shows)

of_state : (old : PairBuilder) (P : State → Type 0) → P (state_of old) → InState old.building P
of_state old P is s shows = subst P (same_state old.building (stands old) (s, ∣ shows ∣₁)) is

TakesBytes-prop : (n : ℕ) (s : State) → IsProp (TakesBytes s n)
TakesBytes-prop n (in_bytes ls kind m bs) x y = le_prop x y
TakesBytes-prop n (complete t) x y = absurd x
TakesBytes-prop n (in_lists ls) x y = absurd x

HasAllBytes-prop : (s : State) → IsProp (HasAllBytes s)
HasAllBytes-prop (in_bytes ls kind n bs) x y = ℕ_set _ _ x y
HasAllBytes-prop (complete t) x y = absurd x
HasAllBytes-prop (in_lists ls) x y = absurd x

HasContent-prop : (s : State) → IsProp (HasContent s)
HasContent-prop (in_bytes ls kinds.Str n bs) = hlevel props
HasContent-prop (in_bytes ls kinds.Facet n bs) = hlevel props
HasContent-prop (in_bytes ls kinds.Bytes n bs) = hlevel props
HasContent-prop (in_bytes ls kinds.Key n bs) = hlevel props
HasContent-prop (complete t) = λ x y. absurd x
HasContent-prop (in_lists ls) = λ x y. absurd x

-- a call that belongs where this many bytes are missing
pub builds_chunk : (old new : PairBuilder) (mid : Building) (n : ℕ) (fits : Type 0) (after : State → State) (r t : Answer) → old.failed ≡ false
    → Does old.building mid (InState old.building (λ s. TakesBytes s n)) (Unit {0}) fits after r → Settled mid new.building old.kept old.failed new.failed r → new.kept ≡ old.kept → new.pairs.items ≡ old.pairs.items → t ≡ r
    → Builds old new (TakesBytes (state_of old) n) fits after t
builds_chunk old new mid n fits after r t not_failed d s kept pairs e =
    let P = λ (z : State). TakesBytes z n in
    builds old new mid (InState old.building P) (P (state_of old)) fits after r t (in_state old P (TakesBytes-prop n)) (of_state old P) not_failed d s kept pairs e

pub ends : (old new : PairBuilder) (mid : Building) (r t : Answer) → old.failed ≡ false → Does old.building mid (InState old.building HasAllBytes) (InState old.building HasContent) (Unit {0}) and_end r → Settled mid new.building old.kept old.failed new.failed r
    → new.kept ≡ old.kept → new.pairs.items ≡ old.pairs.items → t ≡ r → Ends old new t
ends old new mid r t not_failed d s kept pairs e =
    let here = InState old.building HasAllBytes in
    let well = InState old.building HasContent in
    subst (λ z. EndsIf z old new t) (sym not_failed)
    (subst (λ z. EndsIf false old new z) (sym e)
    (ends_live old new mid here well r (in_state old HasAllBytes HasAllBytes-prop) (of_state old HasAllBytes) (in_state old HasContent HasContent-prop) (of_state old HasContent) d (ran old new mid here well (Unit {0}) and_end r not_failed d s kept pairs)))

-- ---- a new builder

pub new_document : (doc : HeapPairs) (n : ℕ) → length doc.heap.items ≡ n → HoldsPrefix doc.heap.items n doc.pairs.items
new_document doc n e = subst (λ z. Holds z doc.pairs.items) (sym (take_all n doc.heap.items (omega (arith, e)))) doc.document

pub new_fields : (doc : HeapPairs) (b : Building) (n : ℕ) → length doc.heap.items ≡ n → Empty doc.heap.items b → Fields b n doc.pairs.items
new_fields doc b n e empty =
    let heap = empty.heap_is in
    let document : HoldsPrefix b.heap.items n doc.pairs.items = subst (λ z. HoldsPrefix z n doc.pairs.items) (sym heap) (new_document doc n e) in
    let same = same_document (take n b.heap.items) doc.heap.items doc.pairs.items doc.pairs.items document doc.document (ap (λ z. take n z) heap ∙ take_all n doc.heap.items (omega (arith, e))) refl in
    record {
      document = document;
      kept_within = omega (arith, e, ap length heap);
      bytes = ap (λ z. take n z) heap ∙ take_all n doc.heap.items (omega (arith, e)) ∙ doc.bytes ∙ ap (document_heap []) (sym same);
      state = none_behind n doc.heap.items b (omega (arith, e, ap length heap)) (omega (arith, doc.fits, ap length heap)) empty;
    }

pub built_new : (doc : HeapPairs) (b : PairBuilder) → heap_so_far b ≡ doc.heap.items → b.pairs.items ≡ doc.pairs.items → b.kept ≡ length doc.heap.items → built b ≡ document_of doc
built_new doc b heap pairs kept =
    same_document (take b.kept (heap_so_far b)) doc.heap.items b.pairs.items doc.pairs.items b.document doc.document
    (ap (λ z. take b.kept z) heap ∙ take_all b.kept doc.heap.items (omega (arith, kept))) pairs

-- ---- the document at the end

pub end_fields : (b : PairBuilder) (heap : List ℕ) → heap ≡ take b.kept (heap_so_far b) → HeapFields heap b.pairs.items
end_fields b heap e =
    let document : Holds heap b.pairs.items = subst (λ z. Holds z b.pairs.items) (sym e) b.document in
    let same = same_document heap (take b.kept (heap_so_far b)) b.pairs.items b.pairs.items document b.document e refl in
    let long = length-take b.kept (heap_so_far b) in
    let small = fits_of b.building (stands b) in
    record { document = document; bytes = e ∙ b.bytes ∙ ap (document_heap []) (sym same); fits = omega (arith, ap length e, long, small) }

pub end_built : (b : PairBuilder) (d : HeapPairs) → d.heap.items ≡ take b.kept (heap_so_far b) → d.pairs.items ≡ b.pairs.items → document_of d ≡ built b
end_built b d heap pairs = same_document d.heap.items (take b.kept (heap_so_far b)) d.pairs.items b.pairs.items d.document b.document heap pairs

pub new_state : (t : PairBuilder) (heap : List ℕ) → length t.building.heap.items ≤ t.kept → Empty heap t.building → state_of t ≡ in_lists []
new_state t heap within e =
    same_behind (kept_heap t) (kept_heap t) t.building t.state (none_behind t.kept heap t.building within (fits_of t.building (stands t)) e)
