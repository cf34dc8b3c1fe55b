-- The end of open bytes.
use Rattle.std.proofs.Common.{◌≡◌, ℕ, ◌+◌, ◌-◌, ◌^◌, ◌<◌, ◌≤◌, List, ◌++◌, length, drop, Some, None, Result, OnOk, IfErr, refl, sym, ◌∙◌, ap, subst, append_assoc, length-append, arith}
use Rattle.std.proofs.Math.Logic.{∥∥₁_elim}
use Rattle.std.specs.Coded.{le_prop}
use Rattle.std.proofs.Math.Seq.{drop-append_seam}
use Rattle.tv_base.specs.Number.{vnum}
use Rattle.tv_base.specs.Parts.{short_sized}
use Rattle.tv_format.specs.Tree.{Tree, leaf, text, facet, bytes}
use Rattle.tv_heap.specs.Reads.{Stands as StandsAt, ShortSized, ShortText, ReadsTree}
use Rattle.tv_heap.specs.TypeCode.{type_code}
use Rattle.tv_heap.specs.declared.value_type.ValueType.{ValueType}
use Rattle.tv_heap.specs.declared.value_type.ValueType.TheVariants as types
use Rattle.tv_heap.proofs.Writes.{at_end, longer, sized_some}
use Rattle.tv_builder.specs.declared.errors.BuildError.{BuildError}
use Rattle.tv_builder.specs.declared.building.Building.{Building}
use Rattle.tv_builder.specs.declared.building.OpenBytes.{OpenBytes}
use Rattle.tv_builder.specs.declared.kinds.BytesKind.{BytesKind}
use Rattle.tv_builder.specs.declared.kinds.BytesKind.TheVariants as kinds
use Rattle.tv_heap.specs.declared.value_type.Place.{Place}
use Rattle.tv_builder.specs.Builder.{HasAllBytes, HasContent}
use Rattle.tv_builder.specs.Given.{Given, given}
use Rattle.tv_builder.specs.Image.{held, image_of, ShowsBehind}
use Rattle.tv_builder.specs.StateHeap.{lists_heap}
use Rattle.tv_builder.specs.Kinds.{bytes_type}
use Rattle.tv_builder.specs.Moves.{InState, CanGive, GivesPlace, GivesNot, Does, last_bytes}
use Rattle.tv_builder.specs.Parts.{IsContentOf}
use Rattle.tv_builder.specs.Shows.{Placed, ShowsState, HoldsSomeState, frames_of, awaited_at}
use Rattle.tv_builder.specs.State.{OpenList, State, complete, in_lists, in_bytes, with_value, with_content, and_end, AreLists, OthersAwait, HeadNext}
use Rattle.tv_builder.specs.TreeBytes.{tree_heap, tree_place}
use Rattle.tv_builder.proofs.Calls.{Written, does_give}
use Rattle.tv_builder.proofs.Giving.{Comes, comes, key_comes, key_waits, prefix_same}
use Rattle.tv_builder.proofs.Images.{given_image}
use Rattle.tv_builder.proofs.Opening.{never}
use Rattle.tv_builder.proofs.Sound.{fits_of, GoesOn, can_give}

-- ---- texts and bytes at the end of a heap

sized_placed : (old new content : List ℕ) (p : Place) (t : Tree) → new ≡ old ++ short_sized content → length new ≤ 4294967295 → (length content < 2 ^ 32 → ReadsTree new (type_code p.value_type) p.address t) → p.address ≡ length old → Placed new p t
sized_placed old new content p t e fits reads at =
    let long = longer old new _ e in
    let whole = length-append (vnum (length content)) content in
    let small : length content < 2 ^ 32 = omega (arith, long, whole, fits) in
    record { reads = reads small; below = λ x y. omega (arith, at, long, sized_some content small); fits = omega (arith, at, long, fits) }

text_stands : (old new content : List ℕ) (at : ℕ) → new ≡ old ++ short_sized content → IsContentOf kinds.Str content → at ≡ length old → length content < 2 ^ 32 → StandsAt new at (λ w. ShortText content w)
text_stands old new content at e is same small =
    subst (λ z. StandsAt new z (λ w. ShortText content w)) (sym same) (at_end old new _ _ e (record { sized = record { is = refl; fits = small }; utf8 = is }))

-- what bytes of a kind are, once all have come
abbrev pub content_tree : BytesKind → List ℕ → Tree
content_tree kinds.Str content = leaf (text content)
content_tree kinds.Facet content = leaf (facet content)
content_tree kinds.Bytes content = leaf (bytes content)
content_tree kinds.Key content = leaf (text content)

-- what is known of them
record Content (kind : BytesKind) (old content : List ℕ) (at : ℕ) : Type 0 where
  heap : old ++ short_sized content ≡ tree_heap old (content_tree kind content)
  place : record { value_type = bytes_type kind; address = at } ≡ tree_place old (content_tree kind content)

content_written : (kind : BytesKind) (old content : List ℕ) (at : ℕ) → at ≡ length old → Content kind old content at
content_written kinds.Str old content at e = record { heap = refl; place = λ i. record { value_type = types.Str; address = e i } }
content_written kinds.Facet old content at e = record { heap = refl; place = λ i. record { value_type = types.Facet; address = e i } }
content_written kinds.Bytes old content at e = record { heap = refl; place = λ i. record { value_type = types.Bytes; address = e i } }
content_written kinds.Key old content at e = record { heap = refl; place = λ i. record { value_type = types.Str; address = e i } }

content_placed : (kind : BytesKind) (old new content : List ℕ) (at : ℕ) → new ≡ old ++ short_sized content → length new ≤ 4294967295 → IsContentOf kind content → at ≡ length old
    → Placed new (record { value_type = bytes_type kind; address = at }) (content_tree kind content)
content_placed kinds.Str old new content at e fits is same = sized_placed old new content _ _ e fits (λ small. (refl, text_stands old new content at e is same small)) same
content_placed kinds.Facet old new content at e fits is same = sized_placed old new content _ _ e fits (λ small. (refl, text_stands old new content at e is same small)) same
content_placed kinds.Key old new content at e fits is same = sized_placed old new content _ _ e fits (λ small. (refl, text_stands old new content at e is same small)) same
content_placed kinds.Bytes old new content at e fits is same =
    sized_placed old new content _ _ e fits (λ small. (refl, subst (λ z. StandsAt new z (λ w. ShortSized content w)) (sym same) (at_end old new _ _ e (record { is = refl; fits = small })))) same

-- they come to the lists as a value, or as a key
pub content_comes : (kind : BytesKind) (ls : List OpenList) (content : List ℕ) → AreLists ls → OthersAwait ls → HeadNext kind ls → Comes ls (content_tree kind content) × (with_content ls kind content ≡ with_value ls (content_tree kind content))
content_comes kinds.Str ls content are others next = (comes ls (leaf (text content)) are next, refl)
content_comes kinds.Facet ls content are others next = (comes ls (leaf (facet content)) are next, refl)
content_comes kinds.Bytes ls content are others next = (comes ls (leaf (bytes content)) are next, refl)
content_comes kinds.Key ls content are others next = (key_comes ls content are others next, key_waits ls content are next)

-- ---- where bytes are open

record InBytes (b : Building) (o : OpenBytes) (s : State) : Type 0 where
  lists : List OpenList
  so_far : List ℕ
  is : s ≡ in_bytes lists o.kind o.announced so_far
  shows : ShowsState b (in_bytes lists o.kind o.announced so_far)
  before : List ℕ
  joined : b.heap.items ≡ before ++ (vnum o.announced ++ so_far)
  place : length before ≡ o.address
  counted : length so_far + o.missing ≡ o.announced

bytes_state : (b : Building) (o : OpenBytes) (s : State) → b.open ≡ Some o → ShowsState b s → InBytes b o s
bytes_state b o (complete t) e h = absurd (let g : Some o ≡ None = sym e ∙ h.at.closed in cc)
bytes_state b o (in_lists ls) e h = absurd (let g : Some o ≡ None = sym e ∙ h.at.closed in cc)
bytes_state b o (in_bytes ls kind n bs) e h =
    let f : Some h.at.piece ≡ Some o = sym h.at.is ∙ e in
    let same_piece : h.at.piece ≡ o = cc in
    let k : kind ≡ o.kind = sym h.at.same_kind ∙ ap (λ (z : OpenBytes). z.kind) same_piece in
    let m : n ≡ o.announced = sym h.at.same_announced ∙ ap (λ (z : OpenBytes). z.announced) same_piece in
    let stand = h.at.stand in
    record {
      lists = ls;
      so_far = bs;
      is = λ i. in_bytes ls (k i) (m i) bs;
      shows = subst (ShowsState b) (λ i. in_bytes ls (k i) (m i) bs) h;
      before = stand.before;
      joined = stand.joined ∙ ap (λ z. stand.before ++ (vnum z ++ bs)) m;
      place = stand.place ∙ ap (λ (z : OpenBytes). z.address) same_piece;
      counted = let c = stand.counted in omega (arith, c, m, ap (λ (z : OpenBytes). z.missing) same_piece);
    }

-- so the announced bytes are within the heap, once all have come
pub announced_small : (b : Building) (o : OpenBytes) → HoldsSomeState b → b.open ≡ Some o → o.missing ≡ 0 → o.announced ≤ length b.heap.items
announced_small b o h e none = ∥∥₁_elim h.1 le_prop (λ s.
    let i = bytes_state b o h.0 e s in
    omega (arith, ap length i.joined, length-append i.before (vnum o.announced ++ i.so_far), length-append (vnum o.announced) i.so_far, i.counted, none))

-- the last bytes are those that have come
last_are : (b : Building) (o : OpenBytes) (s : State) (i : InBytes b o s) → o.missing ≡ 0 → last_bytes o.announced b.heap.items ≡ i.so_far
last_are b o s i none =
    let prefix = i.before ++ vnum o.announced in
    let whole : b.heap.items ≡ prefix ++ i.so_far = i.joined ∙ sym (append_assoc i.before (vnum o.announced) i.so_far) in
    let n : length b.heap.items - o.announced ≡ length prefix = omega (arith, ap length whole, length-append prefix i.so_far, i.counted, none) in
    (λ j. drop (n j) (whole j)) ∙ drop-append_seam prefix i.so_far

-- ---- which answer comes when

pub has_all : (b : Building) (o : OpenBytes) → b.open ≡ Some o → o.missing ≡ 0 → InState b HasAllBytes
has_all b o e none s h = let i = bytes_state b o s e h in subst HasAllBytes (sym i.is) (omega (arith, i.counted, none))

pub has_content : (b : Building) (o : OpenBytes) → b.open ≡ Some o → o.missing ≡ 0 → IsContentOf o.kind (last_bytes o.announced b.heap.items) → InState b HasContent
has_content b o e none is s h = let i = bytes_state b o s e h in subst HasContent (sym i.is) (subst (IsContentOf o.kind) (last_are b o s i none) is)

pub none_open : (b : Building) → HoldsSomeState b → b.open ≡ None → ¬ InState b HasAllBytes
none_open b h e = never b HasAllBytes h not
  where
    not : (s : State) → ShowsState b s → HasAllBytes s → ⊥
    not (in_bytes ls kind n bs) h k = absurd (let f : Some h.at.piece ≡ None = sym h.at.is ∙ e in cc)
    not (complete t) h k = k
    not (in_lists ls) h k = k

pub some_missing : (b : Building) (o : OpenBytes) → HoldsSomeState b → b.open ≡ Some o → 0 < o.missing → ¬ InState b HasAllBytes
some_missing b o h e some = never b HasAllBytes h (λ s x all. let i = bytes_state b o s e x in let k : length i.so_far ≡ o.announced = subst HasAllBytes i.is all in absurd (omega (arith, k, i.counted, some)))

pub no_content : (b : Building) (o : OpenBytes) → HoldsSomeState b → b.open ≡ Some o → o.missing ≡ 0 → ¬ IsContentOf o.kind (last_bytes o.announced b.heap.items) → ¬ InState b HasContent
no_content b o h e none not = never b HasContent h (λ s x is. let i = bytes_state b o s e x in not (subst (IsContentOf o.kind) (sym (last_are b o s i none)) (subst HasContent i.is is)))

-- ---- the value or the key is handed over

-- the building drops the open bytes
abbrev let_go : Building → Building
let_go b = record b { «open» = None }

content_stands : (old : Building) (o : OpenBytes) → old.open ≡ Some o → o.missing ≡ 0 → IsContentOf o.kind (last_bytes o.announced old.heap.items) → (base : List ℕ) (s : State) → ShowsBehind base old s
    → Written base (let_go old) (record { value_type = bytes_type o.kind; address = o.address }) (and_end s)
content_stands old o e none is base s b =
    let i = bytes_state old o s e b.shows in
    let ls = i.lists in
    let t = content_tree o.kind i.so_far in
    let next = content_comes o.kind ls i.so_far i.shows.is.0 i.shows.is.1 i.shows.is.2 in
    let shown : held old ≡ image_of base (in_bytes ls o.kind o.announced i.so_far) = b.image ∙ ap (λ z. image_of base z) i.is in
    let same_count : o.announced ≡ length i.so_far = omega (arith, i.counted, none) in
    let own : vnum o.announced ++ i.so_far ≡ short_sized i.so_far = ap (λ z. vnum z ++ i.so_far) same_count in
    let heap : old.heap.items ≡ lists_heap base ls ++ (vnum o.announced ++ i.so_far) = ap (λ (z : Given). z.heap) shown in
    let at : o.address ≡ length (lists_heap base ls) = omega (arith, i.place, ap length heap, ap length i.joined, length-append (lists_heap base ls) (vnum o.announced ++ i.so_far), length-append i.before (vnum o.announced ++ i.so_far)) in
    let content = content_written o.kind (lists_heap base ls) i.so_far o.address at in
    record {
      lists = ls;
      tree = t;
      is = ap and_end i.is ∙ next.1;
      are = i.shows.is.0;
      comes = next.0;
      shown = i.shows.at.lists;
      placed = content_placed o.kind i.before old.heap.items i.so_far o.address (i.joined ∙ ap (λ z. i.before ++ z) own) i.shows.fits (subst (IsContentOf o.kind) (last_are old o s i none) is) (sym i.place);
      closed = refl;
      image = (λ j. given ((heap ∙ ap (λ z. lists_heap base ls ++ z) own ∙ content.heap) j) (shown j).places (shown j).frames (content.place j)) ∙ given_image base ls t i.shows.is.0 next.0;
    }

pub does_end : (old new : Building) (o : OpenBytes) (t : ValueType) (r : Result (Unit {0}) BuildError) → old.open ≡ Some o → o.missing ≡ 0 → IsContentOf o.kind (last_bytes o.announced old.heap.items) → t ≡ bytes_type o.kind
    → OnOk r (GivesPlace (let_go old) (record { value_type = t; address = o.address }) new) → IfErr r (λ x. GivesNot (let_go old) (record { value_type = t; address = o.address }) new x)
    → Does old new (InState old HasAllBytes) (InState old HasContent) (Unit {0}) and_end r
does_end old new o t r e none is same ok err =
    does_give old (let_go old) new (record { value_type = bytes_type o.kind; address = o.address }) (InState old HasAllBytes) (InState old HasContent) (Unit {0}) and_end r (has_all old o e none) (has_content old o e none is) tt
    (prefix_same old.heap.items old.heap.items refl) (content_stands old o e none is)
    (subst (λ z. OnOk r (GivesPlace (let_go old) (record { value_type = z; address = o.address }) new)) same ok)
    (subst (λ z. IfErr r (λ x. GivesNot (let_go old) (record { value_type = z; address = o.address }) new x)) same err)

pub let_go_gives : (old : Building) (o : OpenBytes) → HoldsSomeState old → old.open ≡ Some o → CanGive (let_go old)
let_go_gives old o h e = can_give old (let_go old) h (subst (λ z. GoesOn (awaited_at z old.complete (frames_of old))) (sym e) tt) (fits_of old h) refl refl refl refl
