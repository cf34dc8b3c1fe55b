use Rattle.std.proofs.Common.{◌≡◌, ℕ, take}
use Rattle.tv_indexing.specs.DocumentTerms.{is_among}
use Rattle.tv_query.specs.Fields.{AreDistinct, names_field}
use Rattle.tv_query.proofs.query.fields_of.Given as goal

abbrev pub invariant-loop-step : goal.invariant-loop-step
invariant-loop-step l = record {
  named : (number : ℕ) → is_among l.fields.items number ≡ names_field (take l.step-index l.steps) number;
  distinct : AreDistinct l.fields.items;
}
