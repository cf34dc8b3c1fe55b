-- The fields of an object's values are those of the schema.
use Rattle.std.proofs.Common.{◌≡◌, ℕ, ◌<◌, List, [], ◌∷◌, ◌++◌, length, Option, Some, None, refl, subst, sym}
use Rattle.std.specs.Prelude.{slice_get}
use Rattle.std.specs.List.{AllByRecursion}
use Rattle.std.proofs.lemmas.Option.{slice_get_within}
use Rattle.serde_json.specs.Data as json
use Rattle.serde_json.specs.Data.{Data, Items, Members}
use Rattle.tv_doc.specs.Belongs.{Belongs}
use Rattle.tv_doc.specs.JsonObject.{FieldJson, item_values, values_for, values_of_entry, values_at, object_values, Pairs}
use Rattle.tv_field.specs.Entry.{Entry}
use Rattle.tv_schema.specs.Schema.{field_named}
use Rattle.tv_field.specs.declared.field_type.FieldType.{FieldType}
use Rattle.tv_format.specs.Tree.{Document}

abbrev HaveFields : ℕ → List FieldJson → Type 0
HaveFields n values = AllByRecursion (λ v. v.field < n) values

both_have : (n : ℕ) (vs ws : List FieldJson) → HaveFields n vs → HaveFields n ws → HaveFields n (vs ++ ws)
both_have n [] ws g h = h
both_have n (v ∷ vs) ws g h = (g.0, both_have n vs ws g.1 h)

items_have : (n field : ℕ) → field < n → (name : List ℕ) (field_type : FieldType) (ds : Items) → HaveFields n (item_values name field field_type ds)
items_have n field below name field_type json.no_items = tt
items_have n field below name field_type (json.item d ds) = (below, items_have n field below name field_type ds)

value_has : (n field : ℕ) → field < n → (name : List ℕ) (field_type : FieldType) (d : Data) → HaveFields n (values_for name field field_type d)
value_has n field below name field_type (json.array ds) = items_have n field below name field_type ds
value_has n field below name field_type json.null = (below, tt)
value_has n field below name field_type (json.boolean b) = (below, tt)
value_has n field below name field_type (json.number m) = (below, tt)
value_has n field below name field_type (json.string s) = (below, tt)
value_has n field below name field_type (json.object ms) = (below, tt)

entry_has : (schema : List Entry) (name : List ℕ) (field : ℕ) (found : Option Entry) → slice_get schema field ≡ found → (d : Data) → HaveFields (length schema) (values_of_entry name field found d)
entry_has schema name field None e d = tt
entry_has schema name field (Some entry) e d = value_has (length schema) field (slice_get_within schema field entry e) name entry.field_type d

at_has : (schema : List Entry) (name : List ℕ) (field : Option ℕ) (d : Data) → HaveFields (length schema) (values_at schema name field d)
at_has schema name None d = tt
at_has schema name (Some field) d = entry_has schema name field (slice_get schema field) refl d

object_has : (schema : List Entry) (members : Members) → HaveFields (length schema) (object_values schema members)
object_has schema json.no_members = tt
object_has schema (json.member k d ms) = both_have (length schema) _ _ (at_has schema k (field_named schema k) d) (object_has schema ms)

pairs_have : (schema : List Entry) (values : List FieldJson) (pairs : Document) → HaveFields (length schema) values → Pairs values pairs → Belongs schema pairs
pairs_have schema [] pairs h made = subst (λ (d : Document). Belongs schema d) (sym made) tt
pairs_have schema (v ∷ vs) pairs h made = subst (λ (d : Document). Belongs schema d) (sym made.3) (h.0, pairs_have schema vs made.1 h.1 made.4)

pub object_belongs : (schema : List Entry) (members : Members) (pairs : Document) → Pairs (object_values schema members) pairs → Belongs schema pairs
object_belongs schema members pairs made = pairs_have schema (object_values schema members) pairs (object_has schema members) made
