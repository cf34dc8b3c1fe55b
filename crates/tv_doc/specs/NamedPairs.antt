-- The pairs of names with values, and what adding them returns.
--
-- The words of the public contracts:
-- `ConvertsNamed`: the document of values by name. `makes`: it has just the pairs of these names, in order,
-- which were added to an empty document, or the error is that of the first addition that was refused.
-- `belongs`: each of its pairs has a field of the schema.
-- `KeepsValues`: a second document has the values of a first. `kept`: each field of the schema has the same
-- values, in their order. `all`: every field has, where each pair of the first has a field of the schema.
-- `KeepsNamed`: the pairs of values by name. `keeps`: where these are the values by name of this document, by
-- a schema, the pairs keep the document's
-- values. `others`: no field past the schema has a value.
-- `ConvertsBack`: the values by name of a document are made a document again. `keeps`: it keeps the
-- document's values. `belongs`: each of its pairs has a field of the schema. `errors`: the error is one of
-- `IsBackError`.
use Rattle.std.specs.Prelude.{◌≡◌, ℕ, ◌<◌, ◌≤◌, List, [], ◌∷◌, ◌++◌, length, map, Option, Some, None, Result}
use Rattle.std.specs.Prelude.{Ok, Err, IfOk, IfErr}
use Rattle.tv_field.specs.Entry.{Entry}
use Rattle.tv_schema.specs.Schema.{IsSchema, field_named}
use Rattle.tv_format.specs.Tree.{Tree, Document}
use Rattle.tv_doc.specs.AdditionError.{addition_error}
use Rattle.tv_doc.specs.Additions.{AddsEach, IsEmpty, IsMade}
use Rattle.tv_doc.specs.Belongs.{Belongs}
use Rattle.tv_doc.specs.Document.{document_of, RefusesAddition}
use Rattle.tv_doc.specs.FieldValues.{values_of}
use Rattle.tv_doc.specs.Named.{IsNamed, Named, NamedNestWithin, field_names}
use Rattle.tv_heap.specs.Room.{document_room}
use Rattle.tv_builder.specs.declared.errors.AddError.{AddError}
use Rattle.tv_builder.specs.declared.errors.AddError.TheVariants as adding
use Rattle.tv_doc.specs.declared.errors.DocParsingError.{DocParsingError}
use Rattle.tv_doc.specs.declared.errors.DocParsingError.TheVariants as errors
use Rattle.tv_doc.specs.declared.document.CompactDoc.{CompactDoc}
use Rattle.tv_doc.specs.declared.errors.NamedBackError.{NamedBackError}
use Rattle.tv_doc.specs.declared.errors.NamedBackError.TheVariants as back
use Rattle.tv_value.specs.declared.copy.CopyError.TheVariants as copying
use Rattle.tv_value.specs.declared.nested.TheConstants.{MAX_DEPTH}

-- a name that is no field's is skipped
abbrev pub pairs_of_field : Option ℕ → List Tree → Document
pairs_of_field None trees = []
pairs_of_field (Some field) trees = map (λ t. (field, t)) trees

abbrev pub named_pairs : List Entry → Named → Document
named_pairs schema [] = []
named_pairs schema (n ∷ ns) = pairs_of_field (field_named schema n.0) n.1 ++ named_pairs schema ns

-- The first pair that is refused, by the document to which those before it were added.
pub record StopsAtPair (pairs : Document) (old : CompactDoc) (error : AddError) : Type 0 where
  pub before : Document
  pub at : ℕ × Tree
  pub behind : Document
  pub joined : pairs ≡ before ++ at ∷ behind
  pub mid : CompactDoc
  pub added : AddsEach before old mid
  pub refused : RefusesAddition mid at.1 error

-- all pairs are added, or the first refusal is returned
abbrev pub AddsNamedPairs : {T : Type 0} → Document → CompactDoc → CompactDoc → Result T AddError → Type 0
AddsNamedPairs pairs old new (Ok x) = AddsEach pairs old new
AddsNamedPairs pairs old new (Err e) = StopsAtPair pairs old e

-- the first refusal of these pairs by a document that was empty
abbrev pub RefusesPairs : Document → AddError → Type 0
RefusesPairs pairs error = (start : CompactDoc) × IsEmpty start × StopsAtPair pairs start error

-- the document has just these pairs, which were added to an empty one, or the first refusal is returned
abbrev pub MakesPairs : Document → Result CompactDoc DocParsingError → Type 0
MakesPairs pairs (Ok made) = (document_of made ≡ pairs) × IsMade made
MakesPairs pairs (Err e) = (refused : AddError) × (e ≡ addition_error refused) × RefusesPairs pairs refused

-- what is made of values by name, whose fields are those of the schema
pub record ConvertsNamed (schema : List Entry) (named : Named)
    (result : Result CompactDoc DocParsingError) : Type 0 where
  pub makes : MakesPairs (named_pairs schema named) result
  pub belongs : IfOk result (λ made. Belongs schema (document_of made))

-- ---- values by name, as pairs again

-- the second document has the values of the first
pub record KeepsValues (schema : List Entry) (old new : Document) : Type 0 where
  pub kept : (field : ℕ) → field < length schema → values_of field new ≡ values_of field old
  pub all : Belongs schema old → (field : ℕ) → values_of field new ≡ values_of field old

-- the values by name of a document keep its values
pub record KeepsNamed (schema : List Entry) (document : Document) (named : Named) : Type 0 where
  pub keeps : IsSchema schema → IsNamed (field_names schema) document named
      → KeepsValues schema document (named_pairs schema named)
  pub others : (field : ℕ) → length schema ≤ field → values_of field (named_pairs schema named) ≡ []

-- The error of converting back the values by name of this document: memory was refused, or the document's
-- values need more room than a
-- heap has.
abbrev pub IsConversionError : Document → DocParsingError → Type 0
IsConversionError document errors.Memory = Unit {0}
IsConversionError document (errors.Add adding.HeapFull) = 4294967295 < document_room document
IsConversionError document (errors.Add adding.Memory) = ⊥
IsConversionError document (errors.InvalidJson text) = ⊥
IsConversionError document (errors.ValueError name e) = ⊥

-- The error of both: that one, or memory was refused for the values by name, or one of them nests too deep.
abbrev pub IsBackError : List Entry → Document → NamedBackError → Type 0
IsBackError schema document (back.Named copying.Memory) = Unit {0}
IsBackError schema document (back.Named copying.TooDeep) =
    ¬ NamedNestWithin (field_names schema) MAX_DEPTH document
IsBackError schema document (back.Converted e) = IsConversionError document e

-- what converting back the values by name of this document returns
pub record ConvertsBack (schema : List Entry) (document : Document)
    (result : Result CompactDoc NamedBackError) : Type 0 where
  pub keeps : IfOk result (λ back. KeepsValues schema document (document_of back))
  pub belongs : IfOk result (λ back. Belongs schema (document_of back))
  pub errors : IfErr result (IsBackError schema document)
