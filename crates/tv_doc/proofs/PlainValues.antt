-- What the table has for JSON objects that are borrowed.
use Rattle.std.proofs.Common.{◌≡◌, List, ℕ, false, Option, Some, Ok, slice_get, Bor, Vec, Global, refl, ap, subst, ◌∙◌}
use Rattle.serde_json.specs.Data.{Data, Items, Members, array, object}
use Rattle.serde_json.specs.Written.{has_float}
use Rattle.tv_json.proofs.Levels.{data_of-Object}
use Rattle.tv_json.specs.BorrowedData.{data_of}
use Rattle.tv_json.specs.declared.value.BorrowedJson.{BorrowedJson}
use Rattle.tv_json.specs.declared.value.BorrowedJson.TheVariants as borrowed
use Rattle.tv_field.specs.JsonTable.{Table, json_row}
use Rattle.tv_field.specs.declared.field_type.FieldType.{FieldType}
use Rattle.tv_field.specs.declared.field_type.FieldType.TheVariants as types
use Rattle.tv_field.specs.Entry.{Entry}
use Rattle.tv_value.specs.JsonTree.{whole_tree}
use Rattle.tv_doc.specs.JsonObject.{item_values, values_at}

whole_row : (d : Data) (ms : Members) → d ≡ object ms → has_float d ≡ false → Ok (whole_tree d) ≡ json_row d
whole_row d ms is whole =
    let w : has_float (object ms) ≡ false = subst (λ x. has_float x ≡ false) is whole in
    rw is (rw w refl)

pub object_row : {o : _} (f : FieldType) (b : BorrowedJson) (ms : Vec (Bor (List ℕ) × BorrowedJson) Global) → f ≡ types.JsonObject o → b ≡ borrowed.Object ms → has_float (data_of b) ≡ false → Table f (data_of b) (Ok (whole_tree (data_of b)))
object_row f b ms is says whole = rw is (whole_row (data_of b) _ (ap data_of says ∙ data_of-Object ms) whole)

-- an array at the name of a field stands for its items
pub values_of_items : (schema : List Entry) (name : List ℕ) (field : ℕ) (e : Entry) (f : FieldType) (named : Option ℕ) (d : Data) (ds : Items) → named ≡ Some field → slice_get schema field ≡ Some e → f ≡ e.field_type → d ≡ array ds
    → item_values name field f ds ≡ values_at schema name named d
values_of_items schema name field e f named d ds is entry type says = rw is (rw says (rw entry (rw type refl)))
