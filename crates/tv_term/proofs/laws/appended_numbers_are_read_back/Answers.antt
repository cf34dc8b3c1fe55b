use Rattle.std.proofs.Common.{◌∙◌, ap, Some, w64, to_z, of_z}
use Rattle.std.proofs.lemmas.Int.{to_z-of_z}
use Rattle.tv_base.specs.JsonPath.{joined_path}
use Rattle.tv_term.proofs.Making.{without_nul}
use Rattle.tv_term.proofs.laws.appended_numbers_are_read_back.Goals as goal

pub returns : goal.returns
returns c = record {
  made =
      c.number_behind_path.ensures c.args.field.id (joined_path c.args.expand_dots c.args.path.now) (to_z w64 (of_z w64 c.args.number)) c.in_ok-term.ensures.made
      ∙ ap Some (to_z-of_z w64 c.args.number c.ranges.number);
  errors = without_nul _ c.in_ok-term.ensures.errors.has_no_nul tt;
}
