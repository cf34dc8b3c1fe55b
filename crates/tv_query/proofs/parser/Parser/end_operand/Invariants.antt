use Rattle.std.proofs.Common.{ℕ, List, vec_len}
use Rattle.tv_field.specs.Entry.{Entry}
use Rattle.tv_query.specs.Grammar.{factor}
use Rattle.tv_query.specs.Parsing.{Follows}
use Rattle.tv_query.specs.Tokens.{QueryToken}
use Rattle.tv_query.proofs.parser.Parser.end_operand.Given as goal

abbrev pub invariant-loop-self : goal.invariant-loop-self
invariant-loop-self l =
    (schema : List Entry) (tokens : List QueryToken) (depth : ℕ) → Follows schema factor l.initial.self.operators.items tokens l.initial.self.steps.items depth
    → Follows schema factor l.self.operators.items tokens l.self.steps.items depth

abbrev pub decreases-loop-self : goal.decreases-loop-self
decreases-loop-self l = vec_len l.self.operators
