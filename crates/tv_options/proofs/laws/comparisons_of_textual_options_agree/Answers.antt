use Rattle.std.proofs.Common.{rules, ◌≡◌, ◌↔◌, IsTrue, Option, None, Some}
use Rattle.std.specs.Option.{option_eq}
use Rattle.tv_options.specs.declared.text_options.TextFieldIndexing.{TextFieldIndexing}
use Rattle.tv_options.specs.contracts.text_options.TextFieldIndexingPartialEq.TheImpl.{eq-value}
use Rattle.tv_options.proofs.laws.comparisons_of_textual_options_agree.Goals as goal

indexing_agrees : (a b : Option TextFieldIndexing) → IsTrue (option_eq eq-value.it a b) ↔ (a ≡ b)
indexing_agrees None None = search rules
indexing_agrees None (Some b) = search rules
indexing_agrees (Some a) None = search rules
indexing_agrees (Some a) (Some b) = search rules

pub returns : goal.returns
returns g c a b = search (rules, indexing_agrees, g.met.Part.OwnPart.compares_by_value)
