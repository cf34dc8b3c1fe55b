use Rattle.std.proofs.Common.{◌≡◌, ◌<◌, [], drop, length, None}
use Rattle.serde_json.specs.View.{items_view}
use Rattle.tv_schema.specs.SchemaJsonEarly.{first_error}
use Rattle.tv_schema.specs.SchemaJsonReading.{with_entries}
use Rattle.tv_schema.proofs.json.builder_of.Given as goal

-- what is left, added after what is there, gives what all the items give
abbrev pub invariant-loop-place : goal.invariant-loop-place
invariant-loop-place l = record {
  same : with_entries [] (items_view l.items) ≡ with_entries l.builder (items_view (drop l.place l.items));
  counted : l.place ≡ length l.builder;
  opened : 0 < l.place → first_error (items_view l.items) ≡ None;
}
