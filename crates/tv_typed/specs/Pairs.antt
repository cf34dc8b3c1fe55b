-- What calls promise that give the pairs of a document one after the other, by what gives them.
use Rattle.std.specs.Prelude.{Bool, Option, Result}
use Rattle.tv_builder.specs.HeldPairs.{document_of}
use Rattle.tv_builder.specs.declared.heap_pairs.HeapPairs.{HeapPairs}
use Rattle.tv_reader.specs.declared.error.DeserializeError.{DeserializeError}
use Rattle.tv_typed.specs.Documents.{GivesField, GivesPairInto}
use Rattle.tv_typed.specs.declared.de.ValueDeserialize.{Ghosts as ValueGhosts}
use Rattle.tv_typed.specs.declared.document.DocumentDeserializer.{Ghosts}
use Rattle.tv_value.specs.declared.field.Field.{Field}

-- the next pair, its value as one of a type
abbrev pub GivesNextField : {D X : Type 0} → Ghosts D → ValueGhosts X
    → D → D → Result (Option (Field × X)) DeserializeError → Type 0
GivesNextField pairs value old new result =
    GivesField pairs.remaining pairs.is_known pairs.gives pairs.has_failed pairs.failures pairs.borrow_name
    value.is (pairs.refuses old value.refused value.deep) old new result

-- the next pair, after those that stand in a heap
abbrev pub GivesNextInto : {D : Type 0} → Ghosts D
    → D → D → HeapPairs → HeapPairs → Result Bool DeserializeError → Type 0
GivesNextInto pairs old new before after result =
    GivesPairInto pairs.remaining pairs.is_known pairs.gives pairs.has_failed pairs.failures pairs.borrow_name
    (pairs.refuses_into old (document_of before)) old new (document_of before) (document_of after) result
