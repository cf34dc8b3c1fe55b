use Rattle.std.specs.Prelude.{drop}
use Rattle.tv_json.specs.BorrowedData.{data_of, items_data}
use Rattle.tv_schema.specs.Schema.{field_named}
use Rattle.tv_doc.specs.JsonObject.{values_at, items_for}
use Rattle.tv_doc.proofs.JsonDocuments.{SoFar}
use Rattle.tv_doc.proofs.borrowed_json.add_borrowed.Given as goal

abbrev pub invariant-loop-item : goal.invariant-loop-item
invariant-loop-item l =
    SoFar (values_at l.reading.schema.now l.name (field_named l.reading.schema.now l.name) (data_of l.json)) (items_for l.to (items_data (drop l.item-index l.item-items))) l.fn.document l.document
