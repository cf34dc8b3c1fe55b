use Rattle.std.proofs.Common.{List, [], ap, subst, sym}
use Rattle.std.specs.List.{IsDistinct}
use Rattle.tv_indexing.specs.DocumentTerms.{is_among}
use Rattle.tv_query.specs.Fields.{AreDistinct}
use Rattle.tv_value.specs.declared.field.Field.{Field}
use Rattle.tv_query.proofs.query.fields_of.Goals as goal

none_distinct : AreDistinct []
unfolding IsDistinct
none_distinct = tt

pub loop-step-init : goal.loop-step-init
loop-step-init c = record {
  named = λ number. ap (λ (fields : List Field). is_among fields number) c.new-fields.ensures.items;
  distinct = subst AreDistinct (sym c.new-fields.ensures.items) none_distinct;
}
