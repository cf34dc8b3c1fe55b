-- Facets of documents as records, and how many documents have a facet at or below each child of a facet.
use Rattle.std.specs.Prelude.{◌≡◌, ◌≢◌, ℕ, ◌<◌, ◌^◌, List, ◌++◌, Result, Ok, Err, map, IsUtf8}
use Rattle.std.specs.Global.{Vec}
use Rattle.std.specs.List.{AllByRecursion, flat_map}
use Rattle.tv_blocks.specs.Records.{record_of}
use Rattle.tv_blocks.specs.Refusals.{BreaksAt}
use Rattle.tv_blocks.specs.declared.block_error.BlockError.{BlockError}
use Rattle.tv_blocks.specs.declared.block_error.BlockError.TheVariants as errors
use Rattle.tv_base.specs.DocumentCounting.{AreDocumentCounts, facet_of}
use Rattle.tv_base.specs.declared.facet_counts.DocumentFacet.{DocumentFacet}

-- ---- records

-- the record of an encoded facet and a number: that of its document, or of documents
abbrev pub facet_record : List ℕ × ℕ → List ℕ
facet_record one = record_of one.1 one.0

-- an encoded facet, which is UTF-8, and the number of a document, which fits eight bytes
abbrev pub IsDocumentFacet : List ℕ × ℕ → Type 0
IsDocumentFacet one = IsUtf8 one.0 × (one.1 < 2 ^ 64)

-- the bytes are the records of these pairs
abbrev pub AreDocumentFacets : List ℕ → List (List ℕ × ℕ) → Type 0
AreDocumentFacets bytes pairs = AllByRecursion IsDocumentFacet pairs × (bytes ≡ flat_map facet_record pairs)

-- they begin with the record of no pair
abbrev pub BeginsWithNoPair : List ℕ → Type 0
BeginsWithNoPair bytes = (pair : List ℕ × ℕ) (rest : List ℕ) → IsDocumentFacet pair
    → bytes ≢ facet_record pair ++ rest

-- ---- what is written

-- The parent is UTF-8. The bytes are the records of pairs, and the content is those of the parent's children
-- and their counts.
abbrev pub AreFacetCounts : List ℕ → List ℕ → List ℕ → Type 0
AreFacetCounts parent bytes content =
    IsUtf8 parent × (pairs : List (List ℕ × ℕ)) × AreDocumentFacets bytes pairs × (counts : List (List ℕ × ℕ))
    × AreDocumentCounts parent pairs counts × (content ≡ flat_map facet_record counts)

-- some bytes are the records of pairs, and those after them begin with none
abbrev pub StopsPairs : List ℕ → ℕ → Type 0
StopsPairs bytes start = BreaksAt (λ before. (pairs : List (List ℕ × ℕ)) × AreDocumentFacets before pairs)
    BeginsWithNoPair bytes start

-- the parent is no UTF-8; or it is, and the bytes are no records of pairs
abbrev pub IsCountsRefusal : List ℕ → List ℕ → BlockError → Type 0
IsCountsRefusal parent bytes errors.NotUtf8 = ¬ IsUtf8 parent
IsCountsRefusal parent bytes (errors.BadPair start) = IsUtf8 parent × StopsPairs bytes start
IsCountsRefusal parent bytes error = ⊥

-- ---- for private clauses

-- the pairs of the bytes, or where they stop
abbrev pub ReadsDocumentFacets : List ℕ → Result (Vec DocumentFacet) BlockError → Type 0
ReadsDocumentFacets bytes (Ok pairs) = AreDocumentFacets bytes (map facet_of pairs.items)
ReadsDocumentFacets bytes (Err (errors.BadPair start)) = StopsPairs bytes start
ReadsDocumentFacets bytes (Err errors.Memory) = Unit {0}
ReadsDocumentFacets bytes (Err error) = ⊥

-- so far the records before the rest have been read
pub record PairsSoFar (bytes rest : List ℕ) (pairs : List (List ℕ × ℕ)) : Type 0 where
  pub before : List ℕ
  pub joined : bytes ≡ before ++ rest
  pub are : AreDocumentFacets before pairs
