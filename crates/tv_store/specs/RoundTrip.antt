-- Values that are added to a document, one after the other, whatever is returned for each.
use Rattle.std.specs.Prelude.{◌≡◌, ℕ, List, length, map, slice_get}
use Rattle.tv_doc.specs.Additions.{Addition, IsEmpty, Runs, accepted_pairs}
use Rattle.tv_doc.specs.Document.{ReadsAt, document_of, heap_of, places_of}
use Rattle.tv_doc.specs.declared.document.CompactDoc.{CompactDoc}
use Rattle.tv_field.specs.Entry.{Entry}
use Rattle.tv_format.specs.Short.{short_document}
use Rattle.tv_format.specs.Tree.{Tree}
use Rattle.tv_format.specs.Version.{V2}
use Rattle.tv_store.specs.Stored.{stored}
use Rattle.tv_store.specs.declared.round_trip.RoundTrip.{RoundTrip}
use Rattle.tv_value.specs.Owned.{owned_tree}
use Rattle.tv_value.specs.declared.field.Field.{Field}
use Rattle.tv_value.specs.declared.owned_value.OwnedValue.{OwnedValue}

-- a value's field and tree
abbrev pub pair_of_value : Field × OwnedValue → ℕ × Tree
pair_of_value value = (value.0.id, owned_tree value.1)

-- the pair of an addition
abbrev pub asked : Addition → ℕ × Tree
asked addition = (addition.field, addition.tree)

-- each of the values was added, and returned what it had to
abbrev pub IsCalled : List (Field × OwnedValue) → CompactDoc → CompactDoc → Type 0
IsCalled values old new = (additions : List Addition) × (map asked additions ≡ map pair_of_value values)
    × Runs additions old new

-- the values were added to an empty document, which then has the pairs that were accepted
pub record IsKept (values : List (Field × OwnedValue)) (new : CompactDoc) : Type 0 where
  pub additions : List Addition
  pub called : map asked additions ≡ map pair_of_value values
  pub start : CompactDoc
  pub empty : IsEmpty start
  pub runs : Runs additions start new
  pub document : document_of new ≡ accepted_pairs additions

-- What comes of values that are added to a document of a schema, stored, and read back with other bytes
-- after them.
--   added   The document has the pairs that were accepted.
--   places  Each value is read at its place in the heap.
--   written The stored pairs are written, in the shortest encoding.
--   back    The stored pairs are read back.
--   rest    The other bytes are left.
pub record IsRoundTrip (schema : List Entry) (values : List (Field × OwnedValue)) (behind : List ℕ)
    (trip : RoundTrip) : Type 0 where
  pub added : IsKept values trip.added
  pub places : (place : ℕ) → ReadsAt trip.added place (slice_get (places_of trip.added) place)
  pub written : trip.written.items ≡ short_document V2 (stored schema (document_of trip.added))
  pub back : document_of trip.back ≡ stored schema (document_of trip.added)
  pub rest : trip.left.items ≡ behind

-- each of the values was accepted
abbrev pub AcceptsAll : List (Field × OwnedValue) → RoundTrip → Type 0
AcceptsAll values trip = length (document_of trip.added) ≡ length values

-- The documents have the same pairs and the same heap, the same is written and read back, and the same bytes
-- are left.
pub record AreTripsAlike (trip twin : RoundTrip) : Type 0 where
  pub added : document_of trip.added ≡ document_of twin.added
  pub heap : heap_of trip.added ≡ heap_of twin.added
  pub written : trip.written.items ≡ twin.written.items
  pub back : document_of trip.back ≡ document_of twin.back
  pub rest : trip.left.items ≡ twin.left.items
