use Rattle.std.proofs.Common.{refl}
use Rattle.tv_term.proofs.Prints.{then_prints}
use Rattle.tv_term.proofs.term_debug.print_typed.Goals as goal

pub returns : goal.returns
returns g c = then_prints _ _ _ _ _ _ _ (λ plain. c.in_ok-print_type.ensures plain refl) c.print_value.ensures
