use Rattle.tv_doc.proofs.NamedBack.{names_keep_values, no_other_fields, names_keep_all}
use Rattle.tv_doc.proofs.laws.named_values_make_the_same_pairs.Goals as goal

pub returns : goal.returns
returns c = λ schema d named. record {
  keeps = λ is n. record {
    kept = λ f within. names_keep_values schema d named f (λ number entry at. c.names_are_of_one_field.ensures.found schema number entry is at) n within;
    all = names_keep_all schema d named (λ number entry at. c.names_are_of_one_field.ensures.found schema number entry is at)
        (λ name number at. c.names_are_of_one_field.ensures.named schema name number at) n;
  };
  others = λ f past. no_other_fields schema named f (λ name number at. c.names_are_of_one_field.ensures.named schema name number at) past;
}
