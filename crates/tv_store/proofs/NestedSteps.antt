-- The children that a list in a heap has left are values with encodings.
use Rattle.std.proofs.Common.{ℕ, ◌<◌, ◌^◌, List, [], ◌∷◌, map}
use Rattle.std.specs.List.{AllByRecursion-prop}
use Rattle.std.proofs.Props.{props}
use Rattle.std.proofs.Math.Logic.{∥∥₁_elim}
use Rattle.tv_doc.proofs.Valid.{reads_valid}
use Rattle.tv_format.specs.Content.{Content, no_content, truth_content, unsigned_content, signed_content, wide_content, text_content, bytes_content, tokens_content}
use Rattle.tv_format.specs.Leaves.{content}
use Rattle.tv_format.specs.Short.{IsContent, IsValue, AreElements, AreEntries}
use Rattle.tv_format.specs.ShortLaws.{AreTokens-prop, IsText-prop}
use Rattle.tv_format.specs.Tree.{Tree, leaf, array, object, Elements, no_elements, element, elements, element_count, Entries, no_entries, entry, entries, entry_count}
use Rattle.tv_heap.specs.declared.value.CompactDocArrayIter.{CompactDocArrayIter}
use Rattle.tv_heap.specs.declared.value.CompactDocObjectIter.{CompactDocObjectIter}
use Rattle.tv_heap.specs.Reads.{ReadsElements, ReadsEntries}
use Rattle.tv_value.specs.Children.{Child, without_key, with_key}
use Rattle.tv_writer.specs.Children.{AreValues}

-- a value has an encoding in one way at most

IsContent-prop : (c : Content) → IsProp (IsContent c)
IsContent-prop (text_content t) = IsText-prop t
IsContent-prop (tokens_content t ts) = λ p q. λ i. (IsText-prop t p.0 q.0 i, AreTokens-prop ts p.1 q.1 i)
IsContent-prop no_content = hlevel props
IsContent-prop (truth_content b) = hlevel props
IsContent-prop (unsigned_content n) = hlevel props
IsContent-prop (signed_content z) = hlevel props
IsContent-prop (wide_content n) = hlevel props
IsContent-prop (bytes_content bs) = hlevel props

mutual
  IsValue-prop : (t : Tree) → IsProp (IsValue t)
  IsValue-prop (leaf l) = IsContent-prop (content l)
  IsValue-prop (array ts) =
      let count : IsProp (element_count ts < 2 ^ 63) = hlevel props in
      λ p q. λ i. (count p.0 q.0 i, AreElements-prop ts p.1 q.1 i)
  IsValue-prop (object es) =
      let count : IsProp (entry_count es < 2 ^ 63) = hlevel props in
      λ p q. λ i. (count p.0 q.0 i, AreEntries-prop es p.1 q.1 i)

  AreElements-prop : (ts : Elements) → IsProp (AreElements ts)
  AreElements-prop no_elements = hlevel props
  AreElements-prop (element t ts) = λ p q. λ i. (IsValue-prop t p.0 q.0 i, AreElements-prop ts p.1 q.1 i)

  AreEntries-prop : (es : Entries) → IsProp (AreEntries es)
  AreEntries-prop no_entries = hlevel props
  AreEntries-prop (entry k t es) = λ p q. λ i. (IsText-prop k p.0 q.0 i, IsValue-prop t p.1 q.1 i, AreEntries-prop es p.2 q.2 i)

AreValues-prop : (cs : List Child) → IsProp (AreValues cs)
AreValues-prop cs = AllByRecursion-prop (λ (c : Child). IsValue c.1) (λ c. IsValue-prop c.1) cs

-- those that are read

items_read : (heap : List ℕ) (parent : ℕ) (whole : List ℕ) (ts : List Tree) → ReadsElements heap parent whole (elements ts) → AreValues (map without_key ts)
items_read heap parent whole [] p = tt
items_read heap parent whole (t ∷ ts) p = (reads_valid heap p.code p.at t p.reads, items_read heap parent p.rest ts p.others)

members_read : (heap : List ℕ) (parent : ℕ) (whole : List ℕ) (es : List (List ℕ × Tree)) → ReadsEntries heap parent whole (entries es) → AreValues (map with_key es)
members_read heap parent whole [] p = tt
members_read heap parent whole (e ∷ es) p =
    let q = p.others in
    (reads_valid heap q.code q.at e.1 q.reads, members_read heap parent q.rest es q.others)

pub items_are_values : (items : CompactDocArrayIter) → AreValues (map without_key items.held.0)
items_are_values items = ∥∥₁_elim items.held.1 (AreValues-prop (map without_key items.held.0)) (λ s. items_read _ s.0 _ items.held.0 s.1)

pub members_are_values : (members : CompactDocObjectIter) → AreValues (map with_key members.held.0)
members_are_values members = ∥∥₁_elim members.held.1 (AreValues-prop (map with_key members.held.0)) (λ s. members_read _ s.0 _ members.held.0 s.1)
