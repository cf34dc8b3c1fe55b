use Rattle.std.proofs.Common.{rules}
use Rattle.tv_term.proofs.Making.{appends_value}
use Rattle.tv_term.proofs.term.Term.append_type_and_fast_value.Goals as goal

pub returns : goal.returns
returns g c = appends_value c.append_type_and_bytes.result _ _ _ (search rules) c.append_type_and_bytes.ensures.unchanged
