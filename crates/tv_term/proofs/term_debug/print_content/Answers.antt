use Rattle.std.proofs.Common.{sym, ap, ◌∙◌}
use Rattle.std.specs.Option.{option_copied}
use Rattle.tv_term.proofs.Prints.{text_is}
use Rattle.tv_term.proofs.term_debug.print_content.Goals as goal

pub returns-in-Some : goal.returns-in-Some
returns-in-Some g c = let path = sym (text_is _ _ c.json_path.ensures) ∙ ap option_copied c.in-Some.is in rw path c.print_value_at.ensures

pub returns-in-None : goal.returns-in-None
returns-in-None g c = let path = sym (text_is _ _ c.json_path.ensures) ∙ ap option_copied c.in-None.is in rw path c.print_value.ensures
