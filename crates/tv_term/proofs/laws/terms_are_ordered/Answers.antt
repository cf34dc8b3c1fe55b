use Rattle.tv_term.proofs.Orders.{term-order}
use Rattle.tv_term.proofs.laws.terms_are_ordered.Goals as goal

pub returns : goal.returns
returns c = term-order
