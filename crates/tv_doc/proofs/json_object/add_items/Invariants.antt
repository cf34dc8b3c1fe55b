use Rattle.std.specs.Vec.Iter.{into_iter_items}
use Rattle.serde_json.specs.View.{items_view}
use Rattle.tv_doc.specs.JsonObject.{items_for}
use Rattle.tv_doc.proofs.JsonDocuments.{SoFar}
use Rattle.tv_doc.proofs.json_object.add_items.Given as goal

abbrev pub invariant-loop-item : goal.invariant-loop-item
invariant-loop-item l =
    SoFar (items_for l.to (items_view l.fn.items.items)) (items_for l.to (items_view (into_iter_items l.item-iterator)))
    l.fn.document l.document
