use Rattle.tv_schema.proofs.Equality.{OptionsDecide, types_decide, entries_decide, schemas_decide}
use Rattle.tv_schema.proofs.laws.comparisons_of_schemas_agree.Goals as goal

pub returns : goal.returns
returns c =
    let options : OptionsDecide = record {
      texts = c.comparisons_of_textual_options_agree.ensures;
      numbers = c.comparisons_of_flag_options_agree.ensures;
      dates = c.comparisons_of_flag_options_agree-2.ensures;
      facets = c.comparisons_of_facet_options_agree.ensures;
      byte_strings = c.comparisons_of_flag_options_agree-3.ensures;
      objects = c.comparisons_of_textual_options_agree-2.ensures;
      addresses = c.comparisons_of_flag_options_agree-4.ensures;
    } in
    record { types = types_decide options; entries = entries_decide options; schemas = schemas_decide options }
