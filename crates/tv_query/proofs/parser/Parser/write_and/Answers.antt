use Rattle.std.proofs.Common.{List, sym, subst}
use Rattle.std.proofs.lemmas.Result.{err_from_is_err_and}
use Rattle.tv_query.specs.Grammar.{all, factor}
use Rattle.tv_query.specs.Parsing.{EndsWithout, Follows}
use Rattle.tv_query.specs.declared.parser.Operator.{Operator}
use Rattle.tv_query.specs.declared.parser.Operator.TheVariants.{And, Not}
use Rattle.tv_query.specs.declared.query.Step.{Step}
use Rattle.tv_query.proofs.Parsing.{as_all, has_and, joined}
use Rattle.tv_query.proofs.parser.Parser.write_and.Goals as goal

pub returns-in_ok-push-clause-written : goal.returns-in_ok-push-clause-written
returns-in_ok-push-clause-written c = λ schema tokens depth follows no_not.
    let j = joined follows c.if-take_off.ensures in
    (subst (λ (s : List Step). Follows schema all c.take_off.new.operators.items tokens s depth) (sym c.in_ok-push.ensures.items) j.0, j.1, j.2)

pub returns-else-take_off-clause-written : goal.returns-else-take_off-clause-written
returns-else-take_off-clause-written c = λ schema tokens depth follows no_not.
    let same = sym c.if-take_off.ensures.0 in (
      subst (λ (o : List Operator). Follows schema all o tokens c.args.self.now.steps.items depth) same (as_all follows),
      subst (EndsWithout Not) same no_not,
      subst (EndsWithout And) same c.if-take_off.ensures.1,
    )

pub returns-in_err-push-clause-memory : goal.returns-in_err-push-clause-memory
returns-in_err-push-clause-memory c = λ schema tokens depth follows.
    let p = err_from_is_err_and c.from_residual.result c.from_residual.ensures.1 in rw p.1 (has_and factor _ _ tokens _ depth follows c.if-take_off.ensures)
