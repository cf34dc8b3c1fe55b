-- How many documents have a facet at or below each child of a facet. A document's facet is its encoded text
-- and the document's number.
use Rattle.std.specs.Prelude.{ℕ, ◌≡◌, ◌≢◌, ◌<◌, List, [], map, nat_eq}
use Rattle.std.specs.List.{AllByRecursion, filter}
use Rattle.std.specs.List.Sorted.{IsStrictlySortedBy}
use Rattle.std.specs.Set.{distinct_count}
use Rattle.std.specs.Ordering.{nat_cmp}
use Rattle.std.specs.Cmp.Lexicographic.{slice_cmp}
use Rattle.tv_base.specs.FacetCounting.{IsChild, is_within}
use Rattle.tv_base.specs.declared.facet_counts.DocumentFacet.{DocumentFacet}

-- a facet's encoded text and the document that has it
abbrev pub facet_of : DocumentFacet → List ℕ × ℕ
facet_of one = (one.facet.now, one.document)

-- the documents of the facets that are the upper one or below it, each as often as it has one
abbrev pub documents_within : List ℕ → List (List ℕ × ℕ) → List ℕ
documents_within upper facets = map (λ one. one.1) (filter (λ one. is_within upper one.0) facets)

-- a child of the ancestor at or below which a document has a facet, and how many different documents have one
pub record IsDocumentCount (ancestor : List ℕ) (facets : List (List ℕ × ℕ)) (child : List ℕ)
    (count : ℕ) : Type 0 where
  pub is_child : IsChild ancestor child
  pub count_is : count ≡ distinct_count nat_eq (documents_within child facets)
  pub has_documents : 0 < count

-- the children at or below which a document has a facet, each once and rising, and how many different
-- documents there are for each
pub record AreDocumentCounts (ancestor : List ℕ) (facets : List (List ℕ × ℕ))
    (counts : List (List ℕ × ℕ)) : Type 0 where
  pub each : AllByRecursion (λ entry. IsDocumentCount ancestor facets entry.0 entry.1) counts
  pub rising : IsStrictlySortedBy (slice_cmp nat_cmp) (map (λ entry. entry.0) counts)
  -- at or below any other child no document has a facet
  pub others : (child : List ℕ) → IsChild ancestor child → AllByRecursion (λ entry. entry.0 ≢ child) counts
      → documents_within child facets ≡ []
