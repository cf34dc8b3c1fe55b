-- How lists and bytes open, and how bytes go on.
use Rattle.std.proofs.Common.{◌≡◌, ℕ, ◌+◌, ◌<◌, ◌≤◌, nat_eq, List, [], ◌∷◌, ◌++◌, length, reverse, Some, None, Ok, Err, refl, sym, ◌∙◌, ap, subst, append_assoc, length-append, arith}
use Rattle.std.proofs.lemmas.Bool.{cond-false, ne_eqb}
use Rattle.std.proofs.lemmas.List.{append-nil, take_all, drop_all, reverse-append}
use Rattle.std.proofs.Math.Logic.{∥∥₁_elim}
use mathlib.Core.HLevel.{⊥_prop}
use Rattle.tv_base.specs.Number.{vnum}
use Rattle.tv_base.specs.Parts.{short_sized}
use Rattle.tv_heap.proofs.Writes.{longer}
use Rattle.tv_builder.specs.declared.errors.AddError.{AddError}
use Rattle.tv_builder.specs.declared.kinds.Awaits.TheVariants as awaits
use Rattle.tv_builder.specs.declared.errors.BuildError.TheVariants.{HeapFull}
use Rattle.tv_builder.specs.declared.building.Building.{Building}
use Rattle.tv_builder.specs.declared.building.OpenBytes.{OpenBytes}
use Rattle.tv_builder.specs.declared.kinds.BytesKind.{BytesKind}
use Rattle.tv_builder.specs.declared.building.Frame.{Frame}
use Rattle.tv_builder.specs.declared.kinds.ListKind.{ListKind}
use Rattle.tv_builder.specs.declared.kinds.ListKind.TheVariants.{Array, Object}
use Rattle.tv_heap.specs.declared.value_type.Place.{Place}
use Rattle.tv_builder.specs.Given.{Given, pending_in}
use Rattle.tv_builder.specs.Image.{lists_places, list_frame, ShowsBehind}
use Rattle.tv_builder.specs.StateHeap.{lists_heap, full_length}
use Rattle.tv_builder.specs.Kinds.{total}
use Rattle.tv_builder.specs.Moves.{InState, Over, Does}
use Rattle.tv_builder.specs.Builder.{TakesBytes}
use Rattle.tv_builder.specs.Fits.{ListFits, HeadFits}
use Rattle.tv_builder.specs.Shows.{ShowsList, ShowsLists, ShowsState, HoldsSomeState, frames_of, awaited_by}
use Rattle.tv_builder.specs.State.{OpenList, State, complete, in_lists, in_bytes, next_in, and_value, and_list, and_head, and_bytes, head_awaits, list_tree, AreChildren}
use Rattle.tv_builder.specs.Whole.{Put, PutNot, WhyUnwritten, ListPut, ListPutNot}
use Rattle.tv_builder.proofs.Calls.{lists_as, lists_next, head_begins, head_next, Takes, value_taken}
use Rattle.tv_builder.proofs.Giving.{prefix_same, lists_grown}
use Rattle.tv_builder.proofs.Putting.{Makes, all_put, made_heap, none_put}
use Rattle.tv_builder.proofs.Sound.{all_await}
use Rattle.tv_builder.proofs.Within.{state_over}

-- ---- a list of none

no_children : (kind : ListKind) → AreChildren kind []
no_children Array = tt
no_children Object = tt

no_total : (kind : ListKind) → 0 ≡ total kind 0
no_total Array = refl
no_total Object = refl

and_empty : (kind : ListKind) (s : State) → and_list s kind 0 ≡ and_value s (list_tree kind [])
and_empty kind (complete t) = refl
and_empty kind (in_lists ls) = refl
and_empty kind (in_bytes ls k n bs) = refl

-- it comes as a value
pub empty_taken : (b : Building) (kind : ListKind) (n : ℕ) → n ≡ 0 → awaited_by b ≡ awaits.Value → (base : List ℕ) (s : State) → ShowsBehind base b s → Takes base b (and_list s kind n) (list_tree kind [])
empty_taken b kind n none await base s h = subst (λ z. Takes base b z (list_tree kind [])) (sym (ap (λ m. and_list s kind m) none ∙ and_empty kind s)) (value_taken b (list_tree kind []) await base s h)

-- it is written as a value
none_make : (kind : ListKind) → Makes kind [] (list_tree kind [])
none_make kind = record { count = 0; counted = no_total kind; children = no_children kind; tree = refl }

pub empty_put : (old new own : List ℕ) (kind : ListKind) (p : Place) → own ≡ [] → ListPut 4294967295 old kind own new p → Put 4294967295 old (list_tree kind []) new p
empty_put old new own kind p none w =
    let fits : length old ≤ 4294967295 = omega (arith, w.fits, ap length w.heap, length-append old (short_sized own)) in
    all_put kind old [] old [] new [] (list_tree kind []) 0 p (none_make kind) (none_put old [] fits (omega arith)) refl (subst (λ z. ListPut 4294967295 old kind z new p) none w)

pub empty_put_not : (old new own : List ℕ) (kind : ListKind) (e : AddError) → own ≡ [] → ListPutNot 4294967295 old own new e → PutNot 4294967295 old (list_tree kind []) new e
empty_put_not old new own kind e none w =
    record { prefix = w.prefix; why = subst (λ z. WhyUnwritten 4294967295 z e) (ap (λ z. old ++ short_sized z) none ∙ sym (made_heap kind old [] (list_tree kind []) (none_make kind))) w.why; fits = w.fits }

-- ---- a list of which some child is awaited

some_total : (kind : ListKind) (n : ℕ) → 0 < n → 0 < total kind n
some_total Array n h = h
some_total Object n h = omega (arith, h)

pub opens_list : (old new : Building) (kind : ListKind) (n : ℕ) (f : Frame) → 0 < n → f ≡ record { kind = kind; announced = n; finished = 0; first = length old.places.items } → awaited_by old ≡ awaits.Value → new.heap.items ≡ old.heap.items
    → new.places.items ≡ old.places.items → new.pending ≡ old.pending → new.frames.items ≡ old.frames.items ++ f ∷ [] → new.complete ≡ old.complete → new.open ≡ old.open
    → Does old new (awaited_by old ≡ awaits.Value) (Unit {0}) (ListFits old.heap.items n) (λ s. and_list s kind n) (Ok tt)
opens_list old new kind n f some is await heap places pending frames whole closed =
    (await, tt, record { grows = prefix_same old.heap.items new.heap.items heap; next = λ base s h. let i = lists_next base old s awaits.Value await tt h in subst (λ z. ShowsBehind base new (and_list z kind n)) (sym i.is) (opened base i.lists i.behind i.awaited) })
  where
    now : frames_of new ≡ f ∷ frames_of old
    now = ap reverse frames ∙ reverse-append old.frames.items (f ∷ [])

    list : OpenList
    list = record { kind = kind; announced = n; children = [] }

    opened : (base : List ℕ) (ls : List OpenList) → ShowsBehind base old (in_lists ls) → next_in ls ≡ awaits.Value → ShowsBehind base new (and_list (in_lists ls) kind n)
    opened base ls b next =
        let h = b.shows in
        let shown = b.image in
        let all = all_await ls next h.is.1 in
        let first : f.first ≡ length old.places.items = ap (λ (z : Frame). z.first) is in
        let shows : ShowsList old.heap.items old.places.items f list = record {
          same_kind = ap (λ (z : Frame). z.kind) (sym is);
          same_announced = ap (λ (z : Frame). z.announced) (sym is);
          counted = ap (λ (z : Frame). z.finished) (sym is);
          cut = omega (arith, first);
          reads = drop_all f.first old.places.items (omega (arith, first));
        } in
        let lists : ShowsLists old.heap.items (f ∷ frames_of old) old.places.items (list ∷ ls) = (shows, subst (λ z. ShowsLists old.heap.items (frames_of old) z ls) (sym (take_all f.first old.places.items (omega (arith, first)))) h.at.lists) in
        let places_are : new.places.items ≡ lists_places base ls = places ∙ ap (λ (z : Given). z.places) shown in
        let frame_is : f ≡ list_frame base list ls = is ∙ ap (λ m. record { kind = kind; announced = n; finished = 0; first = m }) (ap length (sym places ∙ places_are)) in
        let body : ShowsBehind base new (in_lists (list ∷ ls)) = record {
          shows = record {
            fits = omega (arith, ap length heap, h.fits);
            counted = let e = ap (λ (z : Frame). z.finished) is in let k : new.pending ≡ pending_in (f ∷ frames_of old) = omega (arith, pending, h.counted, e) in k ∙ ap pending_in (sym now);
            is = ((record { lacks = some_total kind n some; children = no_children kind }, h.is.0), all);
            at = record {
              none = whole ∙ h.at.none;
              closed = closed ∙ h.at.closed;
              lists = subst (λ z. ShowsLists z (frames_of new) new.places.items (list ∷ ls)) (sym heap) (lists_as old.heap.items _ (frames_of new) _ new.places.items (list ∷ ls) now places lists);
            };
          };
          image = λ i. record {
            heap = (heap ∙ ap (λ (z : Given). z.heap) shown) i;
            places = (places_are ∙ sym (append-nil (lists_places base ls))) i;
            frames = (now ∙ (λ j. frame_is j ∷ (shown j).frames)) i;
            complete = (whole ∙ ap (λ (z : Given). z.complete) shown) i;
          };
        } in
        subst (ShowsBehind base new) (sym (cond-false (nat_eq n 0) _ _ (ne_eqb n 0 (λ e. omega (arith, e, some))))) body

-- ---- bytes

-- they have no room
pub begins_full : (old : Building) (kind : BytesKind) (n : ℕ) → awaited_by old ≡ head_awaits kind → 4294967295 < length old.heap.items + (length (vnum n) + n)
    → Does old old (awaited_by old ≡ head_awaits kind) (Unit {0}) (HeadFits old.heap.items n) (λ s. and_head s kind n) (Err HeapFull)
begins_full old kind n await over = (
  await,
  tt,
  prefix_same old.heap.items old.heap.items refl,
  (λ base s h.
      let i = lists_next base old s (head_awaits kind) await (head_begins kind) h in
      let is = i.behind.shows.is in
      let after = in_bytes i.lists kind n [] in
      let bytes : 4294967295 < full_length base after = omega (arith, over, ap (λ (z : Given). length z.heap) i.behind.image, length-append (lists_heap base i.lists) (vnum n ++ []), length-append (vnum n) []) in
      let body : Over base after = record { bytes = bytes; room = state_over base after (is.0, is.1, head_next kind i.lists i.awaited is.1, omega arith) bytes } in
      subst (λ z. Over base (and_head z kind n)) (sym i.is) body),
)

pub begins_bytes : (old new : Building) (kind : BytesKind) (n : ℕ) (o : OpenBytes) → awaited_by old ≡ head_awaits kind → length old.heap.items + (length (vnum n) + n) ≤ 4294967295
    → o ≡ record { kind = kind; address = length old.heap.items; announced = n; missing = n } → new.heap.items ≡ old.heap.items ++ vnum n → new.places.items ≡ old.places.items → new.pending ≡ old.pending → new.frames.items ≡ old.frames.items
    → new.complete ≡ old.complete → new.open ≡ Some o → Does old new (awaited_by old ≡ head_awaits kind) (Unit {0}) (HeadFits old.heap.items n) (λ s. and_head s kind n) (Ok tt)
begins_bytes old new kind n o await room_is is heap places pending frames whole open_is =
    (await, tt, record { grows = (vnum n, heap); next = λ base s h. let i = lists_next base old s (head_awaits kind) await (head_begins kind) h in subst (λ z. ShowsBehind base new (and_head z kind n)) (sym i.is) (opened base i.lists i.behind i.awaited) })
  where
    opened : (base : List ℕ) (ls : List OpenList) → ShowsBehind base old (in_lists ls) → next_in ls ≡ head_awaits kind → ShowsBehind base new (in_bytes ls kind n [])
    opened base ls b next =
        let h = b.shows in
        let shown = b.image in
        let same_frames : frames_of new ≡ frames_of old = ap reverse frames in
        record {
          shows = record {
            fits = omega (arith, longer old.heap.items new.heap.items (vnum n) heap, room_is);
            counted = pending ∙ h.counted ∙ ap pending_in (sym same_frames);
            is = (h.is.0, h.is.1, head_next kind ls next h.is.1, omega arith);
            at = record {
              none = whole ∙ h.at.none;
              piece = o;
              is = open_is;
              same_kind = ap (λ (z : OpenBytes). z.kind) is;
              same_announced = ap (λ (z : OpenBytes). z.announced) is;
              stand = record {
                before = old.heap.items;
                joined = heap ∙ ap (λ z. old.heap.items ++ z) (sym (append-nil (vnum n)));
                place = ap (λ (z : OpenBytes). z.address) (sym is);
                counted = omega (arith, ap (λ (z : OpenBytes). z.missing) is);
                fits = room_is;
              };
              lists = lists_as new.heap.items _ (frames_of new) _ new.places.items ls same_frames places (lists_grown old.heap.items new.heap.items (vnum n) (frames_of old) old.places.items ls heap h.at.lists);
            };
          };
          image = λ i. record {
            heap = (heap ∙ (λ j. (shown j).heap ++ sym (append-nil (vnum n)) j)) i;
            places = (places ∙ ap (λ (z : Given). z.places) shown) i;
            frames = (same_frames ∙ ap (λ (z : Given). z.frames) shown) i;
            complete = (whole ∙ ap (λ (z : Given). z.complete) shown) i;
          };
        }

-- ---- some more of them

pub takes_chunk : (b : Building) (o : OpenBytes) (n : ℕ) → b.open ≡ Some o → n ≤ o.missing → InState b (λ s. TakesBytes s n)
takes_chunk b o n e small (complete t) h = absurd (let f : Some o ≡ None = sym e ∙ h.at.closed in cc)
takes_chunk b o n e small (in_lists ls) h = absurd (let f : Some o ≡ None = sym e ∙ h.at.closed in cc)
takes_chunk b o n e small (in_bytes ls kind m bs) h =
    let f : Some h.at.piece ≡ Some o = sym h.at.is ∙ e in
    let same : h.at.piece ≡ o = cc in
    omega (arith, small, h.at.stand.counted, ap (λ (z : OpenBytes). z.missing) same)

-- what holds of no state that is held doesn't hold of the one that is
pub never : (b : Building) (P : State → Type 0) → HoldsSomeState b → ((s : State) → ShowsState b s → P s → ⊥) → ¬ InState b P
never b P h not = λ all. ∥∥₁_elim h.1 ⊥_prop (λ s. not h.0 s (all h.0 s))

pub no_chunk : (b : Building) (n : ℕ) → HoldsSomeState b → b.open ≡ None → ¬ InState b (λ s. TakesBytes s n)
no_chunk b n h e = never b (λ s. TakesBytes s n) h not
  where
    not : (s : State) → ShowsState b s → TakesBytes s n → ⊥
    not (in_bytes ls kind m bs) h t = absurd (let f : Some h.at.piece ≡ None = sym h.at.is ∙ e in cc)
    not (complete t) h k = k
    not (in_lists ls) h k = k

pub few_left : (b : Building) (o : OpenBytes) (n : ℕ) → HoldsSomeState b → b.open ≡ Some o → o.missing < n → ¬ InState b (λ s. TakesBytes s n)
few_left b o n h e few = never b (λ s. TakesBytes s n) h not
  where
    not : (s : State) → ShowsState b s → TakesBytes s n → ⊥
    not (in_bytes ls kind m bs) h t =
        let f : Some h.at.piece ≡ Some o = sym h.at.is ∙ e in
        let same : h.at.piece ≡ o = cc in
        absurd (omega (arith, few, t, h.at.stand.counted, ap (λ (z : OpenBytes). z.missing) same))
    not (complete t) h k = k
    not (in_lists ls) h k = k

pub chunk_comes : (old new : Building) (o : OpenBytes) (more : List ℕ) (m : ℕ) → old.open ≡ Some o → length more ≤ o.missing → m + length more ≡ o.missing
    → new.heap.items ≡ old.heap.items ++ more → new.places.items ≡ old.places.items → new.pending ≡ old.pending → new.frames.items ≡ old.frames.items → new.complete ≡ old.complete
    → new.open ≡ Some (record { kind = o.kind; address = o.address; announced = o.announced; missing = m })
    → Does old new (InState old (λ s. TakesBytes s (length more))) (Unit {0}) (Unit {0}) (λ s. and_bytes s more) (Ok tt)
chunk_comes old new o more m was small left heap places pending frames whole open_is =
    (takes_chunk old o (length more) was small, tt, record { grows = (more, heap); next = next })
  where
    next : (base : List ℕ) (s : State) → ShowsBehind base old s → ShowsBehind base new (and_bytes s more)
    next base (complete u) b = absurd (let h = b.shows in let e : Some o ≡ None = sym was ∙ h.at.closed in cc)
    next base (in_lists ls) b = absurd (let h = b.shows in let e : Some o ≡ None = sym was ∙ h.at.closed in cc)
    next base (in_bytes ls kind n bs) b =
        let h = b.shows in
        let shown = b.image in
        let e : Some h.at.piece ≡ Some o = sym h.at.is ∙ was in
        let same_piece : h.at.piece ≡ o = cc in
        let missing_is : h.at.piece.missing ≡ o.missing = ap (λ (z : OpenBytes). z.missing) same_piece in
        let long : length new.heap.items ≡ length old.heap.items + length more = longer old.heap.items new.heap.items more heap in
        let whole_length : length (bs ++ more) ≡ length bs + length more = length-append bs more in
        let stand = h.at.stand in
        let counted = stand.counted in
        let old_length : length old.heap.items ≡ length stand.before + (length (vnum n) + length bs) = ap length stand.joined ∙ length-append stand.before (vnum n ++ bs) ∙ ap (λ z. length stand.before + z) (length-append (vnum n) bs) in
        let same_frames : frames_of new ≡ frames_of old = ap reverse frames in
        record {
          shows = record {
            fits = omega (arith, long, old_length, stand.fits, counted, missing_is, small);
            counted = pending ∙ h.counted ∙ ap pending_in (sym same_frames);
            is = (h.is.0, h.is.1, h.is.2, omega (arith, whole_length, counted, missing_is, small));
            at = record {
              none = whole ∙ h.at.none;
              piece = record { kind = o.kind; address = o.address; announced = o.announced; missing = m };
              is = open_is;
              same_kind = ap (λ (z : OpenBytes). z.kind) (sym same_piece) ∙ h.at.same_kind;
              same_announced = ap (λ (z : OpenBytes). z.announced) (sym same_piece) ∙ h.at.same_announced;
              stand = record {
                before = stand.before;
                joined = heap ∙ ap (λ z. z ++ more) stand.joined ∙ append_assoc stand.before (vnum n ++ bs) more ∙ ap (λ z. stand.before ++ z) (append_assoc (vnum n) bs more);
                place = stand.place ∙ ap (λ (z : OpenBytes). z.address) same_piece;
                counted = omega (arith, whole_length, counted, missing_is, left);
                fits = stand.fits;
              };
              lists = lists_as new.heap.items _ (frames_of new) _ new.places.items ls same_frames places (lists_grown old.heap.items new.heap.items more (frames_of old) old.places.items ls heap h.at.lists);
            };
          };
          image = λ i. record {
            heap = (heap ∙ (λ j. (shown j).heap ++ more) ∙ append_assoc (lists_heap base ls) (vnum n ++ bs) more ∙ ap (λ z. lists_heap base ls ++ z) (append_assoc (vnum n) bs more)) i;
            places = (places ∙ ap (λ (z : Given). z.places) shown) i;
            frames = (same_frames ∙ ap (λ (z : Given). z.frames) shown) i;
            complete = (whole ∙ ap (λ (z : Given). z.complete) shown) i;
          };
        }
