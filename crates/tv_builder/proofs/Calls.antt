-- What the calls for values and keys leave.
use Rattle.std.proofs.Common.{◌≡◌, ℕ, ◌<◌, ◌≤◌, List, [], ◌∷◌, length, None, Result, Ok, Err, OnOk, IfErr, IsErrAnd, refl, sym, ◌∙◌, ap, subst, arith}
use Rattle.tv_base.specs.Sink.{IsPrefix}
use Rattle.tv_format.specs.Tree.{Tree, leaf, text}
use Rattle.tv_builder.specs.declared.errors.AddError.{AddError}
use Rattle.tv_builder.specs.declared.errors.AddError.TheVariants as adds
use Rattle.tv_builder.specs.declared.kinds.Awaits.{Awaits}
use Rattle.tv_builder.specs.declared.kinds.Awaits.TheVariants as awaits
use Rattle.tv_builder.specs.declared.errors.BuildError.{BuildError}
use Rattle.tv_builder.specs.declared.errors.BuildError.TheVariants.{AlreadyFailed, OutOfPlace, NotUtf8, HeapFull, Memory}
use Rattle.tv_builder.specs.declared.building.Building.{Building}
use Rattle.tv_builder.specs.declared.kinds.BytesKind.{BytesKind}
use Rattle.tv_builder.specs.declared.kinds.BytesKind.TheVariants as kinds
use Rattle.tv_builder.specs.declared.building.Frame.{Frame}
use Rattle.tv_heap.specs.declared.value_type.Place.{Place}
use Rattle.tv_builder.specs.Given.{Given, given}
use Rattle.tv_builder.specs.Image.{held, image_of, ShowsBehind}
use Rattle.tv_builder.specs.StateHeap.{full_length}
use Rattle.tv_builder.specs.Moves.{given_to, GivesPlace, GivesNot, Over, Does}
use Rattle.tv_builder.specs.TreeBytes.{tree_heap, tree_place}
use Rattle.tv_builder.specs.Whole.{Put, PutNot, WhyUnwritten, as_refused}
use Rattle.tv_builder.specs.Shows.{Placed, ShowsLists, ShowsAt, frames_of, awaited_by}
use Rattle.tv_builder.specs.State.{OpenList, State, complete, in_lists, in_bytes, next_in, with_value, and_value, and_key, head_awaits, AreLists, OthersAwait, HeadNext}
use Rattle.tv_builder.proofs.Giving.{Comes, comes, key_comes, key_waits, prefix_then, prefix_length, given_prefix, lists_grown, given_shows, value_is}
use Rattle.tv_builder.proofs.Images.{gives_held, value_image, image_heap}
use Rattle.tv_builder.proofs.Putting.{put_grows}
use Rattle.tv_builder.proofs.Sound.{awaited_same, all_await, next_key}
use Rattle.tv_builder.proofs.Within.{state_over}

-- ---- the same, said otherwise

pub lists_as : (heap : List ℕ) (fs fs_as : List Frame) (places places_as : List ℕ) (ls : List OpenList) → fs_as ≡ fs → places_as ≡ places → ShowsLists heap fs places ls → ShowsLists heap fs_as places_as ls
lists_as heap fs fs_as places places_as ls a b h = subst (λ z. ShowsLists heap z places_as ls) (sym a) (subst (λ z. ShowsLists heap fs z ls) (sym b) h)

shown_as : (s : State) (b : Building) (g : Given) → held b ≡ g → ShowsAt g.heap g.frames g.places g.complete b.open s → ShowsAt b.heap.items (frames_of b) b.places.items b.complete b.open s
shown_as s b g e h = subst (λ (z : Given). ShowsAt z.heap z.frames z.places z.complete b.open s) (sym e) h

-- ---- where lists await something

-- what begins where lists are open
abbrev pub Begins : Awaits → Type 0
Begins awaits.Value = Unit {0}
Begins awaits.Key = Unit {0}
Begins _ = ⊥

pub head_begins : (kind : BytesKind) → Begins (head_awaits kind)
head_begins kinds.Str = tt
head_begins kinds.Facet = tt
head_begins kinds.Bytes = tt
head_begins kinds.Key = tt

pub record NextIn (base : List ℕ) (b : Building) (s : State) (next : Awaits) : Type 0 where
  pub lists : List OpenList
  pub is : s ≡ in_lists lists
  pub behind : ShowsBehind base b (in_lists lists)
  pub awaited : next_in lists ≡ next

pub lists_next : (base : List ℕ) (b : Building) (s : State) (next : Awaits) → awaited_by b ≡ next → Begins next → ShowsBehind base b s → NextIn base b s next
lists_next base b (complete t) next e begins h = absurd (subst Begins (sym (sym (awaited_same _ _ _ _ _ (complete t) h.shows.at) ∙ e)) begins)
lists_next base b (in_lists ls) next e begins h = record { lists = ls; is = refl; behind = h; awaited = sym (awaited_same _ _ _ _ _ (in_lists ls) h.shows.at) ∙ e }
lists_next base b (in_bytes ls kind n bs) next e begins h = absurd (subst Begins (sym (sym (awaited_same _ _ _ _ _ (in_bytes ls kind n bs) h.shows.at) ∙ e)) begins)

pub head_next : (kind : BytesKind) (ls : List OpenList) → next_in ls ≡ head_awaits kind → OthersAwait ls → HeadNext kind ls
head_next kinds.Str ls e h = all_await ls e h
head_next kinds.Facet ls e h = all_await ls e h
head_next kinds.Bytes ls e h = all_await ls e h
head_next kinds.Key [] e h = absurd (cc)
head_next kinds.Key (l ∷ ls) e h = next_key l.kind (length l.children) e

-- the tree comes to these lists, and makes this state of them
pub record Takes (base : List ℕ) (b : Building) (after : State) (t : Tree) : Type 0 where
  pub lists : List OpenList
  pub behind : ShowsBehind base b (in_lists lists)
  pub comes : Comes lists t
  pub is : after ≡ with_value lists t

pub value_taken : (b : Building) (t : Tree) → awaited_by b ≡ awaits.Value → (base : List ℕ) (s : State) → ShowsBehind base b s → Takes base b (and_value s t) t
value_taken b t e base s h =
    let n = lists_next base b s awaits.Value e tt h in
    let is = n.behind.shows.is in
    record { lists = n.lists; behind = n.behind; comes = comes n.lists t is.0 (all_await n.lists n.awaited is.1); is = ap (λ z. and_value z t) n.is }

pub key_taken : (b : Building) (k : List ℕ) → awaited_by b ≡ awaits.Key → (base : List ℕ) (s : State) → ShowsBehind base b s → Takes base b (and_key s k) (leaf (text k))
key_taken b k e base s h =
    let n = lists_next base b s awaits.Key e tt h in
    let is = n.behind.shows.is in
    let next = head_next kinds.Key n.lists n.awaited is.1 in
    record { lists = n.lists; behind = n.behind; comes = key_comes n.lists k is.0 is.1 next; is = ap (λ z. and_key z k) n.is ∙ key_waits n.lists k is.0 next }

-- ---- a value that was written is handed to the lists

-- it stands at the end of the heap, and these lists do not hold it yet
pub record Written (base : List ℕ) (mid : Building) (p : Place) (after : State) : Type 0 where
  pub lists : List OpenList
  pub tree : Tree
  pub is : after ≡ with_value lists tree
  pub are : AreLists lists
  pub comes : Comes lists tree
  pub shown : ShowsLists mid.heap.items (frames_of mid) mid.places.items lists
  pub placed : Placed mid.heap.items p tree
  pub closed : mid.open ≡ None
  pub image : given_to mid p ≡ image_of base (with_value lists tree)

handed : (base : List ℕ) (mid new : Building) (p : Place) (after : State) → Written base mid p after → GivesPlace mid p new → ShowsBehind base new after
handed base mid new p after w g =
    let t = w.tree in
    let shown = given_shows (frames_of mid) w.lists mid.heap.items mid.places.items p t w.are w.comes w.shown w.placed (omega (arith, g.fits, ap length g.heap)) in
    let closed : new.open ≡ None = g.same_bytes ∙ w.closed in
    let at = subst (λ z. ShowsAt (given_to mid p).heap (given_to mid p).frames (given_to mid p).places (given_to mid p).complete z (with_value w.lists t)) (sym closed) shown in
    let body : ShowsBehind base new (with_value w.lists t) = record {
      shows = record { fits = g.fits; counted = g.counted; is = value_is w.lists t w.are w.comes; at = shown_as (with_value w.lists t) new (given_to mid p) (gives_held mid new p g) at };
      image = gives_held mid new p g ∙ w.image;
    } in
    subst (ShowsBehind base new) (sym w.is) body

-- a heap that is too long is so for the state
pub over_image : (base : List ℕ) (ls : List OpenList) (t : Tree) (after : State) (g : Given) → g ≡ image_of base (with_value ls t) → after ≡ with_value ls t → AreLists ls → Comes ls t → 4294967295 < length g.heap → Over base after
over_image base ls t after g image is are next over =
    let s = with_value ls t in
    let bytes : 4294967295 < full_length base s = omega (arith, over, ap (λ (z : Given). length z.heap) image, ap length (image_heap base s)) in
    subst (Over base) (sym is) (record { bytes = bytes; room = state_over base s (value_is ls t are next) bytes })

given_grows : (mid new : Building) (p : Place) → GivesPlace mid p new → IsPrefix mid.heap.items new.heap.items
given_grows mid new p g = let f = given_prefix (frames_of mid) mid.heap.items mid.places.items p in (f.0, g.heap ∙ f.1)

pub does_give : (old mid new : Building) (p : Place) (here well fits : Type 0) (after : State → State) (r : Result (Unit {0}) BuildError) → here → well → fits → IsPrefix old.heap.items mid.heap.items
    → ((base : List ℕ) (s : State) → ShowsBehind base old s → Written base mid p (after s)) → OnOk r (GivesPlace mid p new) → IfErr r (λ e. GivesNot mid p new e) → Does old new here well fits after r
does_give old mid new p here well fits after (Ok x) is ends holds prefix written ok err =
    (is, ends, record { grows = prefix_then old.heap.items mid.heap.items new.heap.items prefix (given_grows mid new p ok); next = λ base s h. handed base mid new p (after s) (written base s h) ok })
does_give old mid new p here well fits after (Err HeapFull) is ends holds prefix written ok err = (
  is,
  ends,
  prefix_then old.heap.items mid.heap.items new.heap.items prefix err.prefix,
  (λ base s h. let w = written base s h in over_image base w.lists w.tree (after s) (given_to mid p) w.image w.is w.are w.comes err.why),
)
does_give old mid new p here well fits after (Err Memory) is ends holds prefix written ok err = (is, ends, prefix_then old.heap.items mid.heap.items new.heap.items prefix err.prefix, holds)
does_give old mid new p here well fits after (Err AlreadyFailed) is ends holds prefix written ok err = absurd err.why
does_give old mid new p here well fits after (Err OutOfPlace) is ends holds prefix written ok err = absurd err.why
does_give old mid new p here well fits after (Err NotUtf8) is ends holds prefix written ok err = absurd err.why

-- the refusal that a `?` makes of it
pub refused_as : (old new : Building) (here well fits : Type 0) (after : State → State) (r : Result (Unit {0}) BuildError) (e : AddError) → IsErrAnd r (λ x. x ≡ as_refused e) → Does old new here well fits after (Err (as_refused e)) → Does old new here well fits after r
refused_as old new here well fits after (Ok x) e is d = absurd is
refused_as old new here well fits after (Err x) e is d = subst (λ z. Does old new here well fits after (Err z)) (sym is) d

-- ---- a whole value, or a key

pub does_value : (old mid new : Building) (p : Place) (t : Tree) (here fits : Type 0) (after : State → State) (r : Result (Unit {0}) BuildError) → here → fits
    → ((base : List ℕ) (s : State) → ShowsBehind base old s → Takes base old (after s) t) → Put 4294967295 old.heap.items t mid.heap.items p → frames_of mid ≡ frames_of old → mid.places.items ≡ old.places.items → mid.open ≡ old.open
    → OnOk r (GivesPlace mid p new) → IfErr r (λ e. GivesNot mid p new e) → Does old new here (Unit {0}) fits after r
does_value old mid new p t here fits after r is holds takes w frames places open_is ok err =
    let f = put_grows old.heap.items t mid.heap.items p w in
    does_give old mid new p here (Unit {0}) fits after r is tt holds f
    (λ base s h.
    let k = takes base s h in
    let shows = k.behind.shows in
    record {
      lists = k.lists;
      tree = t;
      is = k.is;
      are = shows.is.0;
      comes = k.comes;
      shown = lists_as mid.heap.items (frames_of old) (frames_of mid) old.places.items mid.places.items k.lists frames places
          (lists_grown old.heap.items mid.heap.items f.0 (frames_of old) old.places.items k.lists f.1 shows.at.lists);
      placed = w.placed;
      closed = open_is ∙ shows.at.closed;
      image = (λ i. given (w.heap i) (places i) (frames i) (w.place i)) ∙ value_image base k.lists t (held old) shows.is.0 k.comes k.behind.image;
    })
    ok err

-- it isn't written
pub value_not : (old new : Building) (t : Tree) (here fits : Type 0) (after : State → State) (e : AddError) → here → (e ≡ adds.Memory → fits) → ((base : List ℕ) (s : State) → ShowsBehind base old s → Takes base old (after s) t)
    → PutNot 4294967295 old.heap.items t new.heap.items e → Does old new here (Unit {0}) fits after (Err (as_refused e))
value_not old new t here fits after e is holds takes w = answer e holds w.why
  where
    whole : Given
    whole = given (tree_heap old.heap.items t) old.places.items (frames_of old) (tree_place old.heap.items t)

    more : length (tree_heap old.heap.items t) ≤ length whole.heap
    more = prefix_length _ _ (given_prefix (frames_of old) (tree_heap old.heap.items t) old.places.items (tree_place old.heap.items t))

    answer : (x : AddError) → (x ≡ adds.Memory → fits) → WhyUnwritten 4294967295 (tree_heap old.heap.items t) x → Does old new here (Unit {0}) fits after (Err (as_refused x))
    answer adds.HeapFull k h = (
      is,
      tt,
      w.prefix,
      (λ base s b.
          let n = takes base s b in
          let are = n.behind.shows.is.0 in
          over_image base n.lists t (after s) whole (value_image base n.lists t (held old) are n.comes n.behind.image) n.is are n.comes (omega (arith, h, more))),
    )
    answer adds.Memory k h = (is, tt, w.prefix, k refl)
