-- What reads is a value that the store encodes.
use Rattle.std.proofs.Common.{ℕ, ◌<◌, ◌≤◌, ◌^◌, List, [], ◌∷◌, length, ap, arith}
use Rattle.std.specs.List.{AllByRecursion}
use Rattle.std.proofs.Props.{props}
use Rattle.std.proofs.Math.Logic.{∥∥₁_elim}
use Rattle.std.proofs.lemmas.List.{length-append}
use Rattle.tv_base.specs.Number.{vnum}
use Rattle.tv_base.proofs.Numbers.{fixed_fits}
use Rattle.tv_format.specs.Content.{Content, no_content, truth_content, unsigned_content, signed_content, wide_content, text_content, bytes_content, tokens_content}
use Rattle.tv_format.specs.Leaves.{content}
use Rattle.tv_format.specs.Short.{IsSized, IsText, IsContent, IsValue, AreElements, AreEntries, IsPair, IsDocument}
use Rattle.tv_format.specs.Tree.{Tree, leaf, array, object, Elements, no_elements, element, Entries, no_entries, entry, element_count, entry_count, Document}
use Rattle.tv_format.specs.ShortLaws.{AreTokens-prop, IsText-prop}
use Rattle.tv_doc.specs.declared.document.CompactDoc.{CompactDoc}
use Rattle.tv_builder.specs.declared.heap_pairs.HeapPair.{HeapPair}
use Rattle.tv_doc.specs.Document.{document_of}
use Rattle.tv_builder.specs.Holds.{ReadsPairs}
use Rattle.tv_heap.specs.Reads.{ShortText, ContentStands, ReadsTree, ReadsElements, ReadsEntries}
use Rattle.tv_heap.specs.TypeCode.{type_code}
use Rattle.tv_builder.proofs.Documents.{document_length}

-- there is one proof at most of each of these

IsSized-prop : (t : List ℕ) → IsProp (IsSized t)
IsSized-prop t = hlevel props

all-prop : {A : Type 0} (P : A → Type 0) → ((x : A) → IsProp (P x)) → (xs : List A) → IsProp (AllByRecursion P xs)
all-prop P one [] = hlevel props
all-prop P one (x ∷ xs) = λ p q. λ i. (one x p.0 q.0 i, all-prop P one xs p.1 q.1 i)

IsContent-prop : (c : Content) → IsProp (IsContent c)
IsContent-prop no_content = hlevel props
IsContent-prop (truth_content b) = hlevel props
IsContent-prop (unsigned_content n) = hlevel props
IsContent-prop (signed_content z) = hlevel props
IsContent-prop (wide_content n) = hlevel props
IsContent-prop (text_content t) = IsText-prop t
IsContent-prop (bytes_content bs) = IsSized-prop bs
IsContent-prop (tokens_content t ts) = λ p q. λ i. (IsText-prop t p.0 q.0 i, AreTokens-prop ts p.1 q.1 i)

mutual
  IsValue-prop : (t : Tree) → IsProp (IsValue t)
  IsValue-prop (leaf l) = IsContent-prop (content l)
  IsValue-prop (array ts) =
      let count : IsProp (element_count ts < 2 ^ 63) = hlevel props in
      λ p q. λ i. (count p.0 q.0 i, AreElements-prop ts p.1 q.1 i)
  IsValue-prop (object es) =
      let count : IsProp (entry_count es < 2 ^ 63) = hlevel props in
      λ p q. λ i. (count p.0 q.0 i, AreEntries-prop es p.1 q.1 i)

  AreElements-prop : (ts : Elements) → IsProp (AreElements ts)
  AreElements-prop no_elements = hlevel props
  AreElements-prop (element t ts) = λ p q. λ i. (IsValue-prop t p.0 q.0 i, AreElements-prop ts p.1 q.1 i)

  AreEntries-prop : (es : Entries) → IsProp (AreEntries es)
  AreEntries-prop no_entries = hlevel props
  AreEntries-prop (entry k t es) = λ p q. λ i. (IsText-prop k p.0 q.0 i, IsValue-prop t p.1 q.1 i, AreEntries-prop es p.2 q.2 i)

IsPair-prop : (pair : ℕ × Tree) → IsProp (IsPair pair)
IsPair-prop pair p q =
    let field : IsProp (pair.0 < 2 ^ 32) = hlevel props in
    λ i. record { field = field p.field q.field i; value = IsValue-prop pair.1 p.value q.value i }

IsDocument-prop : (d : Document) → IsProp (IsDocument d)
IsDocument-prop d p q =
    let count : IsProp (length d < 2 ^ 63) = hlevel props in
    λ i. record { count = count p.count q.count i; each = all-prop IsPair IsPair-prop d p.each q.each i }

-- what stands in a heap is such a value

text_valid : (content whole : List ℕ) → ShortText content whole → IsText content
text_valid content whole p = record { size = omega (arith, p.sized.fits); utf8 = p.utf8 }

content_valid : (heap : List ℕ) (at : ℕ) (c : Content) → ContentStands heap at c → IsContent c
content_valid heap at no_content p = tt
content_valid heap at (truth_content b) p = tt
content_valid heap at (unsigned_content n) p = omega (arith, fixed_fits p.stands)
content_valid heap at (signed_content z) p = p.stands.fits
content_valid heap at (wide_content n) p = omega (arith, fixed_fits p.stands)
content_valid heap at (text_content t) p = text_valid t p.whole p.stands
content_valid heap at (bytes_content bs) p = record { size = omega (arith, p.stands.fits) }
content_valid heap at (tokens_content t ts) p = (p.stands.content_fits, p.stands.tokens_fit)

-- each child takes a byte at least
elements_fewer : (heap : List ℕ) (parent : ℕ) (whole : List ℕ) (ts : Elements) → ReadsElements heap parent whole ts → element_count ts ≤ length whole
elements_fewer heap parent whole no_elements p = omega arith
elements_fewer heap parent whole (element t ts) p =
    omega (arith, ap length p.joined, length-append (vnum p.at) p.rest, elements_fewer heap parent p.rest ts p.others)

entries_fewer : (heap : List ℕ) (parent : ℕ) (whole : List ℕ) (es : Entries) → ReadsEntries heap parent whole es → entry_count es ≤ length whole
entries_fewer heap parent whole no_entries p = omega arith
entries_fewer heap parent whole (entry k t es) p =
    let q = p.others in
    omega (arith, ap length p.joined, ap length q.joined, length-append (vnum p.at) p.rest, length-append (vnum q.at) q.rest, entries_fewer heap parent q.rest es q.others)

mutual
  pub reads_valid : (heap : List ℕ) (code at : ℕ) (t : Tree) → ReadsTree heap code at t → IsValue t
  reads_valid heap code at (leaf l) p = content_valid heap at (content l) p.1
  reads_valid heap code at (array ts) p =
      (omega (arith, p.1.stands.stands.fits, elements_fewer heap at p.1.list ts p.1.children), elements_valid heap at p.1.list ts p.1.children)
  reads_valid heap code at (object es) p =
      (omega (arith, p.1.stands.stands.fits, entries_fewer heap at p.1.list es p.1.children), entries_valid heap at p.1.list es p.1.children)

  elements_valid : (heap : List ℕ) (parent : ℕ) (whole : List ℕ) (ts : Elements) → ReadsElements heap parent whole ts → AreElements ts
  elements_valid heap parent whole no_elements p = tt
  elements_valid heap parent whole (element t ts) p = (reads_valid heap p.code p.at t p.reads, elements_valid heap parent p.rest ts p.others)

  entries_valid : (heap : List ℕ) (parent : ℕ) (whole : List ℕ) (es : Entries) → ReadsEntries heap parent whole es → AreEntries es
  entries_valid heap parent whole no_entries p = tt
  entries_valid heap parent whole (entry k t es) p =
      let q = p.others in
      (text_valid k p.reads.1.whole p.reads.1.stands, reads_valid heap q.code q.at t q.reads, entries_valid heap parent q.rest es q.others)

pairs_valid : (heap : List ℕ) (ps : List HeapPair) (d : Document) → ReadsPairs heap ps d → AllByRecursion IsPair d
pairs_valid heap [] [] r = tt
pairs_valid heap (p ∷ ps) (x ∷ d) r =
    (record { field = r.0.fits; value = reads_valid heap (type_code p.place.value_type) p.place.address x.1 r.0.reads }, pairs_valid heap ps d r.1)
pairs_valid heap [] (x ∷ d) r = absurd r
pairs_valid heap (p ∷ ps) [] r = absurd r

pub document_valid : (d : CompactDoc) → IsDocument (document_of d)
document_valid d =
    let len = d.values.pairs.ok in
    ∥∥₁_elim d.values.document.1 (IsDocument-prop (document_of d)) (λ r. record {
      count = omega (arith, len.0, len.1, d.values.pairs.small, document_length d.values);
      each = pairs_valid d.values.heap.items d.values.pairs.items (document_of d) r;
    })
