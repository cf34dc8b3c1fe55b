-- How children that are written make a whole value.
use Rattle.std.proofs.Common.{◌≡◌, ℕ, ◌+◌, ◌*◌, ◌≤◌, max, inl, inr, List, [], ◌∷◌, ◌++◌, length, map, take, drop, Option, Some, None, Result, Ok, Err, IfOk, OnOk, IfErr, IsErrAnd, refl, sym, ◌∙◌, ap, subst, append_assoc, length-append, arith}
use Rattle.std.proofs.lemmas.Bool.{cases_lt}
use Rattle.std.proofs.lemmas.List.{append-nil}
use Rattle.std.proofs.Math.Seq.{drop-append_seam, take-append_seam}
use Rattle.tv_base.specs.Buffer.{Buffer, GrowsWithin, capacity}
use Rattle.tv_base.specs.Parts.{short_sized}
use Rattle.tv_base.specs.Sink.{IsPrefix}
use Rattle.tv_format.specs.Tree.{Leaf, text, Tree, leaf, array, object, Elements, no_elements, element, Entries, no_entries, entry, elements, entries, element_list, entry_list}
use Rattle.tv_value.specs.Children.{Child, IsListOf, without_key}
use Rattle.tv_heap.specs.LeafBytes.{leaf_bytes}
use Rattle.tv_heap.specs.Reads.{ReadsElements}
use Rattle.tv_heap.specs.TypeCode.{type_code}
use Rattle.tv_heap.specs.Wrote.{Wrote}
use Rattle.tv_heap.proofs.Grown.{grown_elements}
use Rattle.tv_heap.proofs.Lists.{elements_push}
use Rattle.tv_builder.specs.declared.errors.AddError.{AddError}
use Rattle.tv_builder.specs.declared.errors.AddError.TheVariants.{HeapFull, Memory}
use Rattle.tv_builder.specs.declared.kinds.ListKind.{ListKind}
use Rattle.tv_builder.specs.declared.kinds.ListKind.TheVariants.{Array, Object}
use Rattle.tv_heap.specs.declared.value_type.Place.{Place}
use Rattle.tv_builder.specs.Given.{place_bytes}
use Rattle.tv_builder.specs.Kinds.{list_type, total}
pub use Rattle.tv_builder.specs.Nested.{flat, flat_entries, IsOfKind, ChildPut, KeyNotPut}
use Rattle.tv_builder.specs.Shows.{Placed}
use Rattle.tv_builder.specs.State.{pairs_of, list_tree, StartsWithKey, AreChildren}
use Rattle.tv_builder.specs.TreeBytes.{leaf_place, tree_heap, tree_place, elements_heap, elements_places, entries_heap, entries_places}
use Rattle.tv_builder.specs.Whole.{Put, PutNot, Puts, WhyUnwritten, ListPut, ListPutNot}
use Rattle.tv_builder.proofs.Children.{list_placed}
use Rattle.tv_builder.proofs.Giving.{prefix_same, prefix_then, prefix_length}
use Rattle.tv_builder.proofs.Images.{heap_join, places_push, list_heap_is}

-- ---- the heap only grows

mutual
  tree_prefix : (heap : List ℕ) (t : Tree) → IsPrefix heap (tree_heap heap t)
  tree_prefix heap (leaf l) = (leaf_bytes l, refl)
  tree_prefix heap (array ts) = prefix_then heap (elements_heap heap ts) _ (elements_prefix heap ts) (short_sized (elements_places heap ts), refl)
  tree_prefix heap (object es) = prefix_then heap (entries_heap heap es) _ (entries_prefix heap es) (short_sized (entries_places heap es), refl)

  pub elements_prefix : (heap : List ℕ) (ts : Elements) → IsPrefix heap (elements_heap heap ts)
  elements_prefix heap no_elements = prefix_same heap heap refl
  elements_prefix heap (element t ts) = prefix_then heap (tree_heap heap t) _ (tree_prefix heap t) (elements_prefix (tree_heap heap t) ts)

  pub entries_prefix : (heap : List ℕ) (es : Entries) → IsPrefix heap (entries_heap heap es)
  entries_prefix heap no_entries = prefix_same heap heap refl
  entries_prefix heap (entry k t es) =
      let mid = heap ++ short_sized k in
      prefix_then heap mid _ (short_sized k, refl) (prefix_then mid (tree_heap mid t) _ (tree_prefix mid t) (entries_prefix (tree_heap mid t) es))

pub put_grows : {most : ℕ} (old : List ℕ) (t : Tree) (new : List ℕ) (p : Place) → Put most old t new p → IsPrefix old new
put_grows old t new p w = let f = tree_prefix old t in (f.0, w.heap ∙ f.1)

-- where there is no room, there is none for more
pub unwritten_as : (most : ℕ) (heap longer : List ℕ) (e : AddError) → length heap ≤ length longer → WhyUnwritten most heap e → WhyUnwritten most longer e
unwritten_as most heap longer HeapFull more h = omega (arith, h, more)
unwritten_as most heap longer Memory more h = tt

-- ---- a leaf

pub leaf_put : {most : ℕ} (old new : List ℕ) (l : Leaf) (p : Place) → new ≡ old ++ leaf_bytes l → p ≡ leaf_place (length old) l → length new ≤ most → Wrote old new (type_code p.value_type) p.address (leaf l) → Put most old (leaf l) new p
leaf_put old new l p grows place fits w = record {
  heap = grows;
  place = place;
  fits = fits;
  placed = record { reads = w.reads; below = w.below; fits = w.fits };
}

-- ---- children

-- Children are written one after the other at the end of a heap, and their places after others.
pub record ChildrenPut (most : ℕ) (old before : List ℕ) (ts : List Tree) (new left : List ℕ) : Type 0 where
  pub heap : new ≡ elements_heap old (elements ts)
  pub places : left ≡ before ++ elements_places old (elements ts)
  pub fits : length new ≤ most
  pub small : most ≤ 4294967295
  pub prefix : IsPrefix old new
  pub reads : ReadsElements new (length new) (elements_places old (elements ts)) (elements ts)

pub none_put : {most : ℕ} (heap before : List ℕ) → length heap ≤ most → most ≤ 4294967295 → ChildrenPut most heap before [] heap before
none_put heap before fits small = record { heap = refl; places = sym (append-nil before); fits = fits; small = small; prefix = prefix_same heap heap refl; reads = refl }

pub one_child_more : {most : ℕ} (old before mid now new left : List ℕ) (ts : List Tree) (t : Tree) → ChildrenPut most old before ts mid now → ChildPut most mid now t new left → ChildrenPut most old before (ts ++ t ∷ []) new left
one_child_more old before mid now new left ts t v w =
    let p = w.0 in
    let put = w.1 in
    let own = elements_places old (elements ts) in
    let grows = put_grows mid t new p put in
    let same : elements_places old (elements (ts ++ t ∷ [])) ≡ own ++ place_bytes p = places_push old ts t ∙ (λ i. own ++ place_bytes (tree_place (sym v.heap i) t)) ∙ ap (λ q. own ++ place_bytes q) (sym put.place) in
    let grown = grown_elements mid new grows.0 (length mid) (length new) own (elements ts) grows.1 (prefix_length mid new grows) v.reads in
    record {
      heap = put.heap ∙ ap (λ z. tree_heap z t) v.heap ∙ sym (heap_join old ts (t ∷ []));
      places = w.2 ∙ ap (λ z. z ++ place_bytes p) v.places ∙ append_assoc before own (place_bytes p) ∙ ap (λ z. before ++ z) (sym same);
      fits = put.fits;
      small = v.small;
      prefix = prefix_then old mid new v.prefix grows;
      reads = subst (λ z. ReadsElements new (length new) z (elements (ts ++ t ∷ []))) (sym same)
          (elements_push new (length new) own ts (type_code p.value_type) p.address t grown put.placed.reads put.placed.fits put.placed.below);
    }

-- ---- lists of children

-- these children make the list
pub record Makes (kind : ListKind) (ts : List Tree) (t : Tree) : Type 0 where
  pub count : ℕ
  pub counted : length ts ≡ total kind count
  pub children : AreChildren kind ts
  pub tree : t ≡ list_tree kind ts

flat_append : (es fs : List (List ℕ × Tree)) → flat_entries (es ++ fs) ≡ flat_entries es ++ flat_entries fs
flat_append [] fs = refl
flat_append (e ∷ es) fs = ap (λ z. leaf (text e.0) ∷ e.1 ∷ z) (flat_append es fs)

pub flat_push : (es : List (List ℕ × Tree)) (k : List ℕ) (t : Tree) → (flat_entries es ++ leaf (text k) ∷ []) ++ t ∷ [] ≡ flat_entries (es ++ (k, t) ∷ [])
flat_push es k t = append_assoc (flat_entries es) (leaf (text k) ∷ []) (t ∷ []) ∙ sym (flat_append es ((k, t) ∷ []))

flat_pairs : (es : List (List ℕ × Tree)) → pairs_of (flat_entries es) ≡ es
flat_pairs [] = refl
flat_pairs (e ∷ es) = ap (λ z. e ∷ z) (flat_pairs es)

pub flat_length : (es : List (List ℕ × Tree)) → length (flat_entries es) ≡ 2 * length es
flat_length [] = refl
flat_length (e ∷ es) = omega (arith, flat_length es)

flat_are : (es : List (List ℕ × Tree)) → StartsWithKey (flat_entries es)
flat_are [] = tt
flat_are (e ∷ es) = (tt, flat_are es)

pub flat_tree : (es : List (List ℕ × Tree)) → list_tree Object (flat_entries es) ≡ object (entries es)
flat_tree es = ap (λ z. object (entries z)) (flat_pairs es)

pub items_make : (ts : List Tree) → Makes Array ts (array (elements ts))
items_make ts = record { count = length ts; counted = refl; children = tt; tree = refl }

pub members_make : (es : List (List ℕ × Tree)) → Makes Object (flat_entries es) (object (entries es))
members_make es = record { count = length es; counted = flat_length es; children = flat_are es; tree = sym (flat_tree es) }

elements_are : (ts : Elements) → elements (flat (map without_key (element_list ts))) ≡ ts
elements_are no_elements = refl
elements_are (element t ts) = ap (λ z. element t z) (elements_are ts)

entries_are : (es : Entries) → entries (entry_list es) ≡ es
entries_are no_entries = refl
entries_are (entry k t es) = ap (λ z. entry k t z) (entries_are es)

pub children_make : (kind : ListKind) (cs : List Child) (t : Tree) → IsOfKind kind t → IsListOf cs t → Makes kind (flat cs) t
children_make Array cs (array ts) of is =
    subst (λ z. Makes Array (flat z) (array ts)) (sym is) (subst (λ z. Makes Array (flat (map without_key (element_list ts))) (array z)) (elements_are ts) (items_make _))
children_make Object cs (object es) of is = subst (λ z. Makes Object (flat z) (object es)) (sym is) (subst (λ z. Makes Object (flat_entries (entry_list es)) (object z)) (entries_are es) (members_make _))
children_make _ cs _ of is = absurd of

-- what is written of it
pub made_heap : (kind : ListKind) (heap : List ℕ) (ts : List Tree) (t : Tree) → Makes kind ts t → tree_heap heap t ≡ elements_heap heap (elements ts) ++ short_sized (elements_places heap (elements ts))
made_heap kind heap ts t m = ap (tree_heap heap) m.tree ∙ (list_heap_is kind m.count heap ts m.counted m.children).0

own_places : {most : ℕ} (old before heap places : List ℕ) (ts : List Tree) (n : ℕ) → ChildrenPut most old before ts heap places → n ≡ length before → drop n places ≡ elements_places old (elements ts)
own_places old before heap places ts n v is = (λ i. drop (is i) (v.places i)) ∙ drop-append_seam before (elements_places old (elements ts))

pub other_places : {most : ℕ} (old before heap places later : List ℕ) (ts : List Tree) (n : ℕ) → ChildrenPut most old before ts heap places → n ≡ length before → later ≡ take n places → later ≡ before
other_places old before heap places later ts n v is kept = kept ∙ (λ i. take (is i) (v.places i)) ∙ take-append_seam before (elements_places old (elements ts))

-- where its children's places begin
pub first_within : {most : ℕ} (old before heap places : List ℕ) (ts : List Tree) (n : ℕ) → ChildrenPut most old before ts heap places → n ≡ length before → n ≤ length places
first_within old before heap places ts n v is = omega (arith, is, ap length v.places, length-append before (elements_places old (elements ts)))

-- all children are written, and then the list
pub all_put : {most : ℕ} (kind : ListKind) (old before heap places new : List ℕ) (ts : List Tree) (t : Tree) (n : ℕ) (p : Place) → Makes kind ts t → ChildrenPut most old before ts heap places → n ≡ length before → ListPut most heap kind (drop n places) new p → Put most old t new p
all_put {most} kind old before heap places new ts t n p m v is w =
    let cut = own_places old before heap places ts n v is in
    let whole = list_heap_is kind m.count old ts m.counted m.children in
    let heap_is = w.heap ∙ ap (λ z. heap ++ short_sized z) cut in
    subst (λ z. Put most old z new p) (sym m.tree) (record {
      heap = heap_is ∙ ap (λ z. z ++ short_sized (elements_places old (elements ts))) v.heap ∙ sym whole.0;
      place = w.place ∙ ap (λ z. record { value_type = list_type kind; address = length z }) v.heap ∙ sym whole.1;
      fits = w.fits;
      placed = subst (λ q. Placed new q (list_tree kind ts)) (sym w.place) (list_placed kind m.count heap new (elements_places old (elements ts)) ts m.counted m.children v.reads heap_is (omega (arith, w.fits, v.small)));
    })

-- A list began at a heap and after other places. Some of its children are written, and these are left.
pub record ListOpen (most : ℕ) (kind : ListKind) (old before : List ℕ) (whole : Tree) (heap places : List ℕ) (left : List Tree) : Type 0 where
  pub done : List Tree
  pub list : Makes kind (done ++ left) whole
  pub put : ChildrenPut most old before done heap places

pub list_opens : {most : ℕ} (kind : ListKind) (heap places : List ℕ) (ts : List Tree) (t : Tree) → length heap ≤ most → most ≤ 4294967295 → Makes kind ts t → ListOpen most kind heap places t heap places ts
list_opens kind heap places ts t fits small m = record { done = []; list = m; put = none_put heap places fits small }

pub list_goes_on : {most : ℕ} (kind : ListKind) (old before heap places new later : List ℕ) (whole t : Tree) (left ts : List Tree) → ListOpen most kind old before whole heap places left → left ≡ t ∷ ts → ChildPut most heap places t new later → ListOpen most kind old before whole new later ts
list_goes_on kind old before heap places new later whole t left ts s is w = record {
  done = s.done ++ t ∷ [];
  list = subst (λ z. Makes kind z whole) (ap (λ z. s.done ++ z) is ∙ sym (append_assoc s.done (t ∷ []) ts)) s.list;
  put = one_child_more old before heap places new later s.done t s.put w;
}

all_made : {most : ℕ} (kind : ListKind) (old before heap places : List ℕ) (whole : Tree) (left : List Tree) (s : ListOpen most kind old before whole heap places left) → left ≡ [] → Makes kind s.done whole
all_made kind old before heap places whole left s none = subst (λ z. Makes kind z whole) (ap (λ z. s.done ++ z) none ∙ append-nil s.done) s.list

pub list_closes : {most : ℕ} (kind : ListKind) (old before heap places new later : List ℕ) (whole : Tree) (left : List Tree) (n : ℕ) (p : Place) → ListOpen most kind old before whole heap places left → left ≡ [] → n ≡ length before → ListPut most heap kind (drop n places) new p
    → later ≡ take n places → Put most old whole new p × (later ≡ before)
list_closes kind old before heap places new later whole left n p s none is w kept =
    (all_put kind old before heap places new s.done whole n p (all_made kind old before heap places whole left s none) s.put is w, other_places old before heap places later s.done n s.put is kept)

-- a refusal at a child, at a key and at the list itself
pub list_refused : {most : ℕ} (kind : ListKind) (old before heap places new : List ℕ) (whole t : Tree) (left ts : List Tree) (e : AddError) → ListOpen most kind old before whole heap places left → left ≡ t ∷ ts → PutNot most heap t new e → PutNot most old whole new e
list_refused {most} kind old before heap places new whole t left ts e s is w = record { prefix = prefix_then old heap new s.put.prefix w.prefix; why = unwritten_as most _ _ e longer_is w.why; fits = w.fits }
  where
    all : List Tree
    all = s.done ++ left

    longer_is : length (tree_heap heap t) ≤ length (tree_heap old whole)
    longer_is =
        let same : elements_heap old (elements all) ≡ elements_heap (tree_heap heap t) (elements ts) = heap_join old s.done left ∙ (λ i. elements_heap (sym s.put.heap i) (elements (is i))) in
        omega (
          arith,
          prefix_length (tree_heap heap t) _ (elements_prefix (tree_heap heap t) (elements ts)),
          ap length same,
          ap length (made_heap kind old all whole s.list),
          length-append (elements_heap old (elements all)) (short_sized (elements_places old (elements all))),
        )

pub key_refused : {most : ℕ} (key : Option (List ℕ)) (kind : ListKind) (old before heap places new : List ℕ) (whole u : Tree) (cs ds : List Child) (e : AddError) → ListOpen most kind old before whole heap places (flat cs) → cs ≡ (key, u) ∷ ds → KeyNotPut most heap key new e
    → PutNot most old whole new e
key_refused None kind old before heap places new whole u cs ds e s is w = absurd w
key_refused (Some k) kind old before heap places new whole u cs ds e s is w = list_refused kind old before heap places new whole (leaf (text k)) (flat cs) (u ∷ flat ds) e s (ap flat is) w

pub own_refused : {most : ℕ} (kind : ListKind) (old before heap places new : List ℕ) (whole : Tree) (left : List Tree) (n : ℕ) (e : AddError) → ListOpen most kind old before whole heap places left → left ≡ [] → n ≡ length before → ListPutNot most heap (drop n places) new e
    → PutNot most old whole new e
own_refused {most} kind old before heap places new whole left n e s none is w = record { prefix = prefix_then old heap new s.put.prefix w.prefix; why = subst (λ z. WhyUnwritten most z e) (sym same) w.why; fits = w.fits }
  where
    same : tree_heap old whole ≡ heap ++ short_sized (drop n places)
    same = made_heap kind old s.done whole (all_made kind old before heap places whole left s none) ∙ (λ i. sym s.put.heap i ++ short_sized (sym (own_places old before heap places s.done n s.put is) i))

-- its end
pub list_puts : {most : ℕ} (r : Result Place AddError) (kind : ListKind) (old before heap places new later : List ℕ) (whole : Tree) (left : List Tree) (n : ℕ) → ListOpen most kind old before whole heap places left → left ≡ [] → n ≡ length before
    → IfOk r (λ p. ListPut most heap kind (drop n places) new p) → OnOk r (later ≡ take n places) → IfErr r (λ x. ListPutNot most heap (drop n places) new x) → Puts most old before whole new later r
list_puts (Ok p) kind old before heap places new later whole left n s none is ok kept err = list_closes kind old before heap places new later whole left n p s none is ok kept
list_puts (Err e) kind old before heap places new later whole left n s none is ok kept err = own_refused kind old before heap places new whole left n e s none is err

-- ---- for the walk

-- memory was refused
pub memory_not : {most : ℕ} (old new : List ℕ) (t : Tree) → IsPrefix old new → PutNot most old t new Memory
memory_not old new t f = record { prefix = f; why = tt; fits = λ (h : Memory ≡ HeapFull). absurd (cc) }

-- a leaf writes no places
pub leaf_puts : (most : ℕ) (r : Result Place AddError) (old places : List ℕ) (t : Tree) (new : List ℕ) → IfOk r (λ p. Put most old t new p) → IfErr r (λ e. PutNot most old t new e) → Puts most old places t new places r
leaf_puts most (Ok p) old places t new ok err = (ok, refl)
leaf_puts most (Err e) old places t new ok err = err

-- what the exit of a `?` returns
pub refused : {most : ℕ} (r : Result Place AddError) (old places : List ℕ) (t : Tree) (new left : List ℕ) (e : AddError) → IsErrAnd r (λ x. x ≡ e) → PutNot most old t new e → Puts most old places t new left r
refused (Ok p) old places t new left e is not = absurd is
refused {most} (Err x) old places t new left e is not = subst (PutNot most old t new) (sym is) not

-- where nothing is written, memory stays
pub grows_same : (most : ℕ) (a : Buffer) → GrowsWithin most a a
grows_same most a = record { same = λ h. refl; bound = omega arith }

-- what is written within a bound that is at most 524288 bytes, or the capacity, takes at most 1 MiB more
pub grows_little : {most : ℕ} (a b : Buffer) → most ≤ max (capacity a) 524288 → GrowsWithin most a b → capacity b ≤ capacity a + 1048576
grows_little {most} a b bound grows = elim (cases_lt (capacity a) most) [ inl few ↦ omega (arith, few, bound, grows.bound) | inr enough ↦ omega (arith, grows.same (omega (arith, enough))) ]
