use Rattle.std.proofs.Common.{◌∙◌}
use Rattle.tv_base.specs.JsonPath.{joined_path}
use Rattle.tv_term.specs.Key.{json_term}
use Rattle.tv_term.specs.Range.{IsAtPath}
use Rattle.tv_term.proofs.TermRanges.{terms-from, of_path}
use Rattle.tv_term.proofs.Making.{without_nul}
use Rattle.tv_term.proofs.term.Term.json_path_range.Goals as goal

pub returns : goal.returns
returns c = record {
  made =
      let id = c.args.field.id in
      let path = joined_path c.args.expand_dots c.args.json_path.now in
      let made = c.in_ok-least.ensures.made in
      terms-from c.in_ok-from_prefix.field-0 c.into_bytes.result.items (json_term id path) (IsAtPath id path) (c.into_bytes.ensures ∙ made.bytes_are) c.in_ok-from_prefix.ensures
      (λ f value small fits. of_path id f path value made.field_fits made.path_has_no_zero small fits);
  errors = without_nul _ c.in_ok-least.ensures.errors.has_no_nul tt;
}
