-- Pairs after an addition that kept the place of what was written, or cut what was written off again.
use Rattle.std.proofs.Common.{◌≡◌, ℕ, ◌+◌, ◌≤◌, ◌<◌, ◌^◌, true, false, Bool, List, [], ◌++◌, length, length-append, take, Option, Some, None, Result, Ok, Err, SomeIff, refl, sym, subst, ◌∙◌, ap, arith}
use Rattle.tv_base.specs.Sink.{IsPrefix}
use Rattle.tv_format.specs.Tree.{Tree, leaf}
use Rattle.tv_heap.specs.LeafBytes.{leaf_bytes, leaf_value_type, leaf_address}
use Rattle.tv_heap.specs.Room.{leaf_room, room}
use Rattle.tv_heap.specs.TypeCode.{type_code}
use Rattle.tv_heap.specs.Wrote.{Wrote}
use Rattle.tv_heap.specs.declared.value_type.Place.{Place}
use Rattle.tv_heap.proofs.Writes.{leaf_fits}
use Rattle.tv_value.specs.Lent.{leaf_of}
use Rattle.tv_value.specs.declared.leaf.ReferenceValueLeaf.{ReferenceValueLeaf}
use Rattle.tv_builder.specs.declared.errors.AddError.{AddError}
use Rattle.tv_builder.specs.declared.errors.AddError.TheVariants.{HeapFull, Memory}
use Rattle.tv_builder.specs.declared.heap_pairs.HeapPair.{HeapPair}
use Rattle.tv_builder.specs.declared.heap_pairs.HeapPairs.{HeapPairs}
use Rattle.tv_builder.specs.HeldPairs.{heap_of, Added, Adds, RefusesAddition, IsUnchanged, GrowsLittle}
use Rattle.tv_builder.specs.Keeping.{KeepsPair, PairKept, PairCut}
use Rattle.tv_builder.specs.Holds.{Holds}
use Rattle.tv_builder.specs.Moves.{FitsRoom}
use Rattle.tv_builder.specs.TreeBytes.{document_heap}
use Rattle.tv_builder.specs.Whole.{Put}
use Rattle.tv_builder.proofs.Documents.{unchanged, added, pushed, pushed_bytes, kept, kept_bytes, restored}
use Rattle.tv_builder.proofs.Putting.{put_grows, leaf_put}

-- the room that was found is the tree's, and it is free
pub room_fits : {most : ℕ} (found : Option ℕ) (len n : ℕ) (fits : Bool) → SomeIff found (n < 2 ^ 32) n → FitsRoom most found len fits → fits ≡ true → len + n ≤ most
room_fits {most} (Some m) len n fits is h e = omega (arith, is.1, h.0 e)
room_fits {most} None len n fits is h e = absurd (let f : false ≡ true = sym h ∙ e in cc)

-- what is known of the heap and the pairs
pub record Fields (heap : List ℕ) (ps : List HeapPair) : Type 0 where
  pub document : Holds heap ps
  pub bytes : heap ≡ document_heap [] document.0
  pub fits : length heap < 2 ^ 32

-- neither the heap nor the pairs changed
pub same_fields : (old : HeapPairs) (heap : List ℕ) (ps : List HeapPair) → heap ≡ heap_of old → ps ≡ old.pairs.items → Fields heap ps
same_fields old heap ps same same_pairs = record { document = kept old heap ps same same_pairs; bytes = kept_bytes old heap ps same same_pairs; fits = omega (arith, old.fits, ap length same) }

-- what was written is cut off again
pub cut_fields : (old : HeapPairs) (mid heap : List ℕ) (ps : List HeapPair) (len : ℕ) → IsPrefix (heap_of old) mid → len ≡ length (heap_of old) → heap ≡ take len mid → ps ≡ old.pairs.items → Fields heap ps
cut_fields old mid heap ps len prefix len_is cut same_pairs = same_fields old heap ps (cut ∙ restored (heap_of old) mid len prefix len_is) same_pairs

pub cut_unchanged : (old new : HeapPairs) (mid : List ℕ) (len : ℕ) → IsPrefix (heap_of old) mid → len ≡ length (heap_of old) → heap_of new ≡ take len mid → new.pairs.items ≡ old.pairs.items → IsUnchanged old new
cut_unchanged old new mid len prefix len_is cut same_pairs = unchanged old new (cut ∙ restored (heap_of old) mid len prefix len_is) same_pairs

-- the tree was written, and its field fits
pub record Written (old : HeapPairs) (mid : List ℕ) (len field : ℕ) (t : Tree) (at : Place) : Type 0 where
  pub len_is : len ≡ length (heap_of old)
  pub field_fits : field < 2 ^ 32
  pub put : Put 4294967295 (heap_of old) t mid at

-- a value without children was
pub leaf_written : (old : HeapPairs) (mid : List ℕ) (len field : ℕ) (value : ReferenceValueLeaf) (at : Place) → len ≡ length (heap_of old) → field < 2 ^ 32 → length (heap_of old) + leaf_room (leaf_of value) ≤ 4294967295
    → mid ≡ heap_of old ++ leaf_bytes (leaf_of value) → (at.value_type ≡ leaf_value_type (leaf_of value)) × (at.address ≡ leaf_address (length (heap_of old)) (leaf_of value))
    → Wrote (heap_of old) mid (type_code at.value_type) at.address (leaf (leaf_of value)) → Written old mid len field (leaf (leaf_of value)) at
leaf_written old mid len field value at len_is fits free grows place wrote =
    let small = leaf_fits (length (heap_of old)) value (omega (arith, free)) in
    record {
      len_is = len_is;
      field_fits = fits;
      put =
          leaf_put (heap_of old) mid (leaf_of value) at grows (λ i. record { value_type = place.0 i; address = place.1 i })
          (omega (arith, small, ap length grows, length-append (heap_of old) (leaf_bytes (leaf_of value)))) wrote;
    }

put_at : (old : HeapPairs) (mid heap : List ℕ) (len field : ℕ) (t : Tree) (at : Place) → Written old mid len field t at → heap ≡ mid → Put 4294967295 (heap_of old) t heap at
put_at old mid heap len field t at w same = subst (λ h. Put 4294967295 (heap_of old) t h at) (sym same) w.put

pub kept_fields : (old : HeapPairs) (mid heap : List ℕ) (ps : List HeapPair) (len field : ℕ) (t : Tree) (at : Place) (result : Result (Unit {0}) AddError) → Written old mid len field t at
    → KeepsPair mid heap old.pairs.items ps len field at result → Fields heap ps
kept_fields old mid heap ps len field t at (Ok x) w k =
    let put = put_at old mid heap len field t at w k.heap in
    record { document = pushed old heap ps at field t w.field_fits put k.pairs; bytes = pushed_bytes old heap ps at field t w.field_fits put k.pairs; fits = omega (arith, put.fits) }
kept_fields old mid heap ps len field t at (Err e) w k = cut_fields old mid heap ps len (put_grows (heap_of old) t mid at w.put) w.len_is k.heap k.pairs

pub kept_added : (old new : HeapPairs) (mid : List ℕ) (len field : ℕ) (t : Tree) (at : Place) → Written old mid len field t at → PairKept mid (heap_of new) old.pairs.items new.pairs.items field at → Added old new field t
kept_added old new mid len field t at w k = added old new at field t w.field_fits (put_at old mid (heap_of new) len field t at w k.heap) k.pairs

pub kept_unchanged : (old new : HeapPairs) (mid : List ℕ) (len field : ℕ) (t : Tree) (at : Place) (e : AddError) → Written old mid len field t at → PairCut mid (heap_of new) old.pairs.items new.pairs.items len e → IsUnchanged old new
kept_unchanged old new mid len field t at e w k = cut_unchanged old new mid len (put_grows (heap_of old) t mid at w.put) w.len_is k.heap k.pairs

pub kept_adds : (old new : HeapPairs) (mid : List ℕ) (len field : ℕ) (t : Tree) (at : Place) (result : Result (Unit {0}) AddError) → length (heap_of old) + room t ≤ 4294967295 → Written old mid len field t at
    → KeepsPair mid (heap_of new) old.pairs.items new.pairs.items len field at result → Adds old new field t result
kept_adds old new mid len field t at (Ok x) free w k = (free, kept_added old new mid len field t at w k)
kept_adds old new mid len field t at (Err e) free w k = (subst (RefusesAddition old t) (sym k.memory) free, kept_unchanged old new mid len field t at e w k)

-- ---- how memory grew

pub kept_memory : (a b : ℕ) (mid heap : List ℕ) (ps qs : List HeapPair) (len field : ℕ) (at : Place) (result : Result (Unit {0}) AddError) → KeepsPair mid heap ps qs len field at result → GrowsLittle a b result
kept_memory a b mid heap ps qs len field at (Ok x) k = tt
kept_memory a b mid heap ps qs len field at (Err HeapFull) k = absurd (let f : HeapFull ≡ Memory = k.memory in cc)
kept_memory a b mid heap ps qs len field at (Err Memory) k = tt

pub cut_memory : (a b : ℕ) (e : AddError) → (e ≡ HeapFull → b ≤ a + 1048576) → GrowsLittle {T = Unit {0}} a b (Err e)
cut_memory a b HeapFull h = h refl
cut_memory a b Memory h = tt
