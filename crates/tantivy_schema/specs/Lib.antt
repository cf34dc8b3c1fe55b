-- The definitions that public contracts are said with, for the clauses and the implementations of callers.

-- sources and sinks of bytes, and what was read or written
pub use Rattle.tv_base.specs.Buffer
pub use Rattle.tv_base.specs.Source
pub use Rattle.tv_base.specs.Lend
pub use Rattle.tv_base.specs.Sink
pub use Rattle.tv_base.specs.Writing
pub use Rattle.tv_base.specs.Stop
pub use Rattle.tv_base.specs.Take
pub use Rattle.tv_base.specs.Append
pub use Rattle.tv_base.specs.ReadsAs
pub use Rattle.tv_io.specs.Calls
pub use Rattle.tv_io.specs.Planned as PlannedFailures
pub use Rattle.tv_io.specs.Limited
pub use Rattle.tv_io.specs.Buffered
-- numbers, texts and paths
pub use Rattle.tv_base.specs.Number
pub use Rattle.tv_base.specs.Parts
pub use Rattle.tv_base.specs.ErrorInPart
pub use Rattle.tv_base.specs.Escapes
pub use Rattle.tv_base.specs.Facet
pub use Rattle.tv_base.specs.JsonPath
-- values, and the store format's grammar
pub use Rattle.tv_format.specs.Tree
pub use Rattle.tv_format.specs.Version
pub use Rattle.tv_format.specs.WriteVersion
pub use Rattle.tv_format.specs.Encoding
pub use Rattle.tv_format.specs.Short
pub use Rattle.tv_format.specs.InputError
pub use Rattle.tv_date.specs.DateTime
pub use Rattle.tv_date.specs.Rfc3339
pub use Rattle.tv_date.specs.Shape as DateShape
pub use Rattle.tv_date.specs.Printed as DatePrinted
pub use Rattle.tv_value.specs.Cases
pub use Rattle.tv_format.specs.Content
pub use Rattle.tv_value.specs.InPlace
pub use Rattle.tv_value.specs.LeafParts
pub use Rattle.tv_format.specs.Leaves
pub use Rattle.tv_value.specs.IpAddress
pub use Rattle.tv_value.specs.JsonTree
pub use Rattle.tv_format.specs.Size
pub use Rattle.tv_value.specs.JsonOf
pub use Rattle.tv_json.specs.Named as NamedJson
pub use Rattle.tv_json.specs.Grammar as JsonGrammar
pub use Rattle.tv_json.specs.Syntax as JsonSyntax
pub use Rattle.tv_json.specs.Faults as JsonFaults
pub use Rattle.tv_json.specs.LargeNumber as LargeJsonNumber
pub use Rattle.tv_value.specs.Lent
pub use Rattle.tv_value.specs.Nesting
pub use Rattle.tv_value.specs.Owned
pub use Rattle.tv_value.specs.Same
pub use Rattle.tv_value.specs.SameLaws
pub use Rattle.tv_value.specs.HeldTokens
pub use Rattle.tv_value.specs.TokenRef
pub use Rattle.tv_value.specs.PreTokenized
pub use Rattle.tv_value.specs.EncodedTokens
pub use Rattle.tv_value.specs.SameTokens
pub use Rattle.tv_reader.specs.Legacy
pub use Rattle.tv_reader.specs.LegacyLaws
-- options, types and schemas
pub use Rattle.tv_options.specs.FacetOptions
pub use Rattle.tv_options.specs.FastFieldTextOptions
pub use Rattle.tv_options.specs.FlagOptions
pub use Rattle.tv_options.specs.IndexRecordOption
pub use Rattle.tv_options.specs.JsonObjectOptions
pub use Rattle.tv_options.specs.NumericOptions
pub use Rattle.tv_options.specs.TextFieldIndexing
pub use Rattle.tv_options.specs.TextOptions
pub use Rattle.tv_options.specs.TextualOptions
pub use Rattle.tv_options.specs.Types
pub use Rattle.tv_field.specs.Entry
pub use Rattle.tv_schema.specs.Schema
pub use Rattle.tv_schema.specs.Path
pub use Rattle.tv_field.specs.JsonAnswer
pub use Rattle.tv_field.specs.JsonTable
pub use Rattle.tv_field.specs.JsonTokens
pub use Rattle.tv_schema.specs.SchemaJson
pub use Rattle.tv_schema.specs.SchemaJsonEarly
pub use Rattle.tv_schema.specs.SchemaJsonOptions
pub use Rattle.tv_schema.specs.SchemaJsonReading
-- terms
pub use Rattle.tv_term.specs.FastValue
pub use Rattle.tv_term.specs.FastValueLaws
pub use Rattle.tv_term.specs.Key
pub use Rattle.tv_term.specs.Making as TermMaking
pub use Rattle.tv_term.specs.Reading as TermReading
pub use Rattle.tv_term.specs.Printed as TermPrinted
pub use Rattle.tv_term.specs.Lending
pub use Rattle.tv_term.specs.Range as TermRange
pub use Rattle.tv_term.specs.Within as TermsWithin
pub use Rattle.tv_term.specs.Segments
pub use Rattle.tv_indexing.specs.LeafTerms
pub use Rattle.tv_indexing.specs.DocumentTerms
pub use Rattle.tv_indexing.specs.TermFault
pub use Rattle.tv_indexing.specs.Visits as TermVisits
pub use Rattle.tv_indexing.specs.Unless
pub use Rattle.tv_indexing.specs.Tells
pub use Rattle.tv_indexing.specs.Agree
pub use Rattle.tv_indexing.specs.IndexedField
pub use Rattle.tv_indexing.specs.TakesMemory
pub use Rattle.tv_indexing.specs.TextTerms
pub use Rattle.tv_indexing.specs.TextRange
pub use Rattle.tv_indexing.specs.JsonBounds
pub use Rattle.tv_indexing.specs.JsonRanges
pub use Rattle.tv_indexing.specs.TermText
-- facets that are counted
pub use Rattle.tv_base.specs.FacetCounting
pub use Rattle.tv_base.specs.ChildPlaces
pub use Rattle.tv_base.specs.DocumentCounting
pub use Rattle.tv_base.specs.Greatest as GreatestCounts
pub use Rattle.tv_base.specs.Printed as CountPrinted
-- documents
pub use Rattle.tv_doc.specs.AdditionError
pub use Rattle.tv_doc.specs.Alike as DocumentsAlike
pub use Rattle.tv_doc.specs.Additions
pub use Rattle.tv_doc.specs.Belongs
pub use Rattle.tv_doc.specs.Builder
pub use Rattle.tv_doc.specs.Document
pub use Rattle.tv_doc.specs.InPlace as DocumentInPlace
pub use Rattle.tv_builder.specs.EncodedPairs
pub use Rattle.tv_doc.specs.FieldValues
pub use Rattle.tv_doc.specs.Grouped
pub use Rattle.tv_heap.specs.Encoded as EncodedInHeap
pub use Rattle.tv_heap.specs.Held
pub use Rattle.tv_doc.specs.JsonObject
pub use Rattle.tv_doc.specs.TextFault
pub use Rattle.tv_doc.specs.StrictJson
pub use Rattle.tv_doc.specs.MapValue
pub use Rattle.tv_doc.specs.Named
pub use Rattle.tv_doc.specs.NamedPairs
pub use Rattle.tv_doc.specs.SameTexts
pub use Rattle.tv_heap.specs.Reads
pub use Rattle.tv_heap.specs.Room
pub use Rattle.tv_heap.specs.TypeCode
pub use Rattle.tv_heap.specs.Value
pub use Rattle.tv_heap.specs.Weight
-- values that come part by part
pub use Rattle.tv_builder.specs.Behind
pub use Rattle.tv_builder.specs.Called
pub use Rattle.tv_builder.specs.Prefix
pub use Rattle.tv_builder.specs.Fits
pub use Rattle.tv_builder.specs.HeldPairs
pub use Rattle.tv_builder.specs.Kinds as BuilderKinds
pub use Rattle.tv_builder.specs.Builder as PairsBuilder
pub use Rattle.tv_builder.specs.Parts as ValueParts
pub use Rattle.tv_builder.specs.StateHeap
pub use Rattle.tv_builder.specs.State
pub use Rattle.tv_builder.specs.TreeBytes
pub use Rattle.tv_builder.specs.Weight as StateWeight
-- the store
pub use Rattle.tv_store.specs.Documents
pub use Rattle.tv_store.specs.Reading
pub use Rattle.tv_store.specs.Migrate
pub use Rattle.tv_store.specs.BlockMigration
pub use Rattle.tv_writer.specs.Error as StoreError
pub use Rattle.tv_store.specs.Decoder
pub use Rattle.tv_store.specs.Blocks
pub use Rattle.tv_store.specs.BlockSteps
pub use Rattle.tv_store.specs.Limits
pub use Rattle.tv_store.specs.Projections
pub use Rattle.tv_reading.specs.ChosenFields
pub use Rattle.tv_reading.specs.Documents as DecodedDocuments
pub use Rattle.tv_reading.specs.Prefix as DecoderPrefix
pub use Rattle.tv_reading.specs.Paid
pub use Rattle.tv_reading.specs.Steps
pub use Rattle.tv_reading.specs.Kept as DecoderKept
pub use Rattle.tv_store.specs.PairsGiven
pub use Rattle.tv_store.specs.RoundTrip
pub use Rattle.tv_writer.specs.Serialized
pub use Rattle.tv_store.specs.Stored
pub use Rattle.tv_store.specs.Alike
pub use Rattle.tv_reader.specs.Depth
pub use Rattle.tv_reader.specs.Error as ReaderError
pub use Rattle.tv_reader.specs.Finds
pub use Rattle.tv_reader.specs.HeadReading
pub use Rattle.tv_reader.specs.Leaves as LeafReading
pub use Rattle.tv_reader.specs.Trees
pub use Rattle.tv_reader.specs.Version as StoreVersion
pub use Rattle.tv_reader.specs.ValueType
pub use Rattle.tv_typed.specs.Typed
pub use Rattle.tv_typed.specs.Values
pub use Rattle.tv_typed.specs.Reads as TypedReads
pub use Rattle.tv_typed.specs.Items as TypedItems
pub use Rattle.tv_typed.specs.Pairs as TypedPairs
pub use Rattle.tv_typed.specs.Visitors
pub use Rattle.tv_typed.specs.Determined
pub use Rattle.tv_typed.specs.Depths
pub use Rattle.tv_typed.specs.Lists
pub use Rattle.tv_typed.specs.LegacyObjects
pub use Rattle.tv_typed.specs.Visits
pub use Rattle.tv_typed.specs.Excluding
pub use Rattle.tv_typed.specs.ExcludingLists
pub use Rattle.tv_typed.specs.ExcludingLegacy
pub use Rattle.tv_typed.specs.TreeTypes
pub use Rattle.tv_typed.specs.Documents as DocumentPairs
-- the types of code that contracts speak of
pub mod CodeTypes
-- lines of JSON and their answers
pub use Rattle.tv_lines.specs.Lines
pub use Rattle.tv_lines.specs.Answers
pub use Rattle.tv_lines.specs.Halts
pub use Rattle.tv_lines.specs.Streams
pub use Rattle.tv_lines.specs.Run
pub use Rattle.tv_lines.specs.Status as RunStatus
