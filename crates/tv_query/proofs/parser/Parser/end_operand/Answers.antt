use Rattle.std.proofs.Common.{List, subst, sym}
use Rattle.tv_query.specs.Grammar.{factor}
use Rattle.tv_query.specs.Parsing.{Follows}
use Rattle.tv_query.specs.declared.query.Step.{Step}
use Rattle.tv_query.proofs.Parsing.{negated}
use Rattle.tv_query.proofs.parser.Parser.end_operand.Goals as goal

pub loop-self-preserved : goal.loop-self-preserved
loop-self-preserved c = λ schema tokens depth follows.
    subst (λ (s : List Step). Follows schema factor c.take_off.new.operators.items tokens s depth) (sym c.in_ok-push.ensures.items)
    (negated (c.loop-self.invariant schema tokens depth follows) c.loop-self-test.ensures)
