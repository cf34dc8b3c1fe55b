use Rattle.std.proofs.Common.{◌∙◌, ap, w64, to_z, of_z}
use Rattle.std.specs.Ordering.{int_cmp}
use Rattle.std.proofs.lemmas.Int.{to_z-of_z}
use Rattle.tv_term.specs.Key.{Signed}
use Rattle.tv_term.proofs.Terms.{values-order}
use Rattle.tv_term.proofs.laws.signed_terms_compare_as_numbers.Goals as goal

pub returns : goal.returns
returns c = record {
  made =
      let one = c.args.one in
      let other = c.args.other in
      c.cmp.ensures ∙ values-order _ _ c.args.field.id (Signed (to_z w64 (of_z w64 one))) (Signed (to_z w64 (of_z w64 other))) c.in_ok-one.ensures.made c.in_ok-other.ensures.made
      ∙ ap (λ z. int_cmp z (to_z w64 (of_z w64 other))) (to_z-of_z w64 one c.ranges.one) ∙ ap (int_cmp one) (to_z-of_z w64 other c.ranges.other);
  errors = tt;
}
