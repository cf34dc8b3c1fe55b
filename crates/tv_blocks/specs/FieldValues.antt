-- The values of a field in the documents of a block, as records.
use Rattle.std.specs.Prelude.{◌≡◌, ℕ, suc, List, [], ◌∷◌, ◌++◌, if◌then◌else◌, length, None, Some, IsUtf8}
use Rattle.std.specs.Int.{cast_unsigned, to_be_bytes, to_le_bytes, w64, w128}
use Rattle.std.specs.List.{flat_map}
use Rattle.serde_json.specs.Written.{compact_text}
use Rattle.tv_blocks.specs.Records.{numbered_record}
use Rattle.tv_blocks.specs.Refusals.{RefusesDocument, BreaksAt}
use Rattle.tv_blocks.specs.declared.block_error.BlockError.{BlockError}
use Rattle.tv_blocks.specs.declared.block_error.BlockError.TheVariants as errors
use Rattle.tv_blocks.specs.declared.block_error.DocumentRefusal.{DocumentRefusal}
use Rattle.tv_blocks.specs.declared.block_error.DocumentRefusal.TheVariants as documents
use Rattle.tv_blocks.specs.declared.field_values.ValueKind.{ValueKind}
use Rattle.tv_blocks.specs.declared.field_values.ValueKind.TheVariants as kinds
use Rattle.tv_doc.specs.FieldValues.{values_of}
use Rattle.tv_field.specs.Entry.{Entry}
use Rattle.tv_format.specs.Tree.{Document, Leaf, Tree, leaf, null, text, unsigned, signed, boolean, date}
use Rattle.tv_format.specs.Tree.{facet, bytes, ip_address, tokenized, array, object}
use Rattle.tv_format.specs.Version.{Version}
use Rattle.tv_indexing.specs.DocumentTerms.{field_of}
use Rattle.tv_value.specs.JsonOf.{json_of}
use Rattle.tv_reading.specs.ChosenFields.{HasNoRoomChosen}
use Rattle.tv_schema.specs.Schema.{field_named}
use Rattle.tv_store.specs.BlockMigration.{EncodesBlock}

-- ---- values as records

abbrev pub kind_number : ValueKind → ℕ
kind_number kinds.Null = 0
kind_number kinds.Text = 1
kind_number kinds.Unsigned = 2
kind_number kinds.Signed = 3
kind_number kinds.Truth = 4
kind_number kinds.Date = 5
kind_number kinds.Facet = 6
kind_number kinds.Bytes = 7
kind_number kinds.Address = 8
kind_number kinds.Json = 9

-- the kind of a value that stands as its text of JSON, and that text
abbrev pub json_content : Tree → ValueKind × List ℕ
json_content tree = (kinds.Json, compact_text (json_of tree))

-- the kind of a value, and the bytes that stand for it
abbrev pub leaf_content : Leaf → ValueKind × List ℕ
leaf_content null = (kinds.Null, [])
leaf_content (text t) = (kinds.Text, t)
leaf_content (unsigned n) = (kinds.Unsigned, to_le_bytes w64 n)
leaf_content (signed z) = (kinds.Signed, to_le_bytes w64 (cast_unsigned w64 z))
leaf_content (boolean b) = (kinds.Truth, (if b then 1 else 0) ∷ [])
leaf_content (date z) = (kinds.Date, to_le_bytes w64 (cast_unsigned w64 z))
leaf_content (facet f) = (kinds.Facet, f)
leaf_content (bytes bs) = (kinds.Bytes, bs)
leaf_content (ip_address n) = (kinds.Address, to_be_bytes w128 n)
leaf_content (tokenized t ts) = json_content (leaf (tokenized t ts))

abbrev pub value_content : Tree → ValueKind × List ℕ
value_content (leaf l) = leaf_content l
value_content (array ts) = json_content (array ts)
value_content (object es) = json_content (object es)

-- the number of a document, and then a kind and bytes
abbrev pub content_record : ℕ → ValueKind × List ℕ → List ℕ
content_record number content = numbered_record number (kind_number content.0) content.1

abbrev pub value_record : ℕ → Tree → List ℕ
value_record number tree = content_record number (value_content tree)

-- those of a field's values in a document, in order
abbrev pub document_values : ℕ → ℕ → Document → List ℕ
document_values number field document = flat_map (value_record number) (values_of field document)

-- those of documents, of which the first has this number
abbrev pub values_from : ℕ → ℕ → List Document → List ℕ
values_from first field [] = []
values_from first field (document ∷ more) = document_values first field document
    ++ values_from (suc first) field more

-- the block encodes documents, and these are the records of the field's values, the documents counted from 0
abbrev pub IsValueList : Version → ℕ → List ℕ → List ℕ → Type 0
IsValueList version field block content = (documents : List Document) × EncodesBlock version block documents
    × (content ≡ values_from 0 field documents)

-- the same of the field that has the name by the schema
abbrev pub AreNamedValues : List Entry → List ℕ → Version → List ℕ → List ℕ → Type 0
AreNamedValues schema name version block content = IsUtf8 name × (field : ℕ)
    × (field_named schema name ≡ Some field) × IsValueList version field block content

-- ---- why there are none

-- the bytes begin with no document, or the field's values need too much room in the one with which they begin
abbrev pub RefusesBlockValues : Version → ℕ → DocumentRefusal → List ℕ → Type 0
RefusesBlockValues version field documents.HeapFull whole =
    HasNoRoomChosen version (field_of field ∷ []) whole
RefusesBlockValues version field refusal whole = RefusesDocument version whole refusal

abbrev pub EncodeDocuments : Version → List ℕ → Type 0
EncodeDocuments version whole = (documents : List Document) × EncodesBlock version whole documents

-- the document that begins there is the first that is refused
abbrev pub IsValueListRefusal : Version → ℕ → List ℕ → BlockError → Type 0
IsValueListRefusal version field block (errors.BadDocument start refusal) =
    BreaksAt (EncodeDocuments version) (RefusesBlockValues version field refusal) block start
IsValueListRefusal version field block error = ⊥

-- the name is no UTF-8, or no field's; or it is, and a document is refused
abbrev pub IsNamedValuesRefusal : List Entry → List ℕ → Version → List ℕ → BlockError → Type 0
IsNamedValuesRefusal schema name version block errors.NotUtf8 = ¬ IsUtf8 name
IsNamedValuesRefusal schema name version block errors.NoField = IsUtf8 name × (field_named schema name ≡ None)
IsNamedValuesRefusal schema name version block error = IsUtf8 name × (field : ℕ)
    × (field_named schema name ≡ Some field) × IsValueListRefusal version field block error

-- ---- for private clauses

-- a document of the block is refused, or memory was
abbrev pub IsValuesBlockRefusal : Version → ℕ → List ℕ → BlockError → Type 0
IsValuesBlockRefusal version field block errors.Memory = Unit {0}
IsValuesBlockRefusal version field block error = IsValueListRefusal version field block error

-- so far the records of the documents before the rest of the block have been appended
pub record ValuesSoFar (version : Version) (field : ℕ) (block rest content : List ℕ)
    (number : ℕ) : Type 0 where
  pub before : List ℕ
  pub joined : block ≡ before ++ rest
  pub documents : List Document
  pub counted : number ≡ length documents
  pub encoded : EncodesBlock version before documents
  pub listed : content ≡ values_from 0 field documents
