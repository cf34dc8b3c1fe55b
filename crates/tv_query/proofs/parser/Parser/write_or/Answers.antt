use Rattle.std.proofs.Common.{List, sym, subst}
use Rattle.std.proofs.lemmas.Result.{err_from_is_err_and}
use Rattle.tv_query.specs.Grammar.{all, any}
use Rattle.tv_query.specs.Parsing.{EndsWithout, Follows}
use Rattle.tv_query.specs.declared.parser.Operator.{Operator}
use Rattle.tv_query.specs.declared.parser.Operator.TheVariants.{And, Not, Or}
use Rattle.tv_query.specs.declared.query.Step.{Step}
use Rattle.tv_query.proofs.Parsing.{as_any, has_or, parted}
use Rattle.tv_query.proofs.parser.Parser.write_or.Goals as goal

pub returns-in_ok-push-clause-written : goal.returns-in_ok-push-clause-written
returns-in_ok-push-clause-written c = λ schema tokens depth follows no_not.
    let a = c.in_ok-write_and.ensures.written schema tokens depth follows no_not in
    let j = parted a.0 c.if-take_off.ensures in
    (subst (λ (s : List Step). Follows schema any c.take_off.new.operators.items tokens s depth) (sym c.in_ok-push.ensures.items) j.0, j.1, j.2, j.3)

pub returns-else-take_off-clause-written : goal.returns-else-take_off-clause-written
returns-else-take_off-clause-written c = λ schema tokens depth follows no_not.
    let a = c.in_ok-write_and.ensures.written schema tokens depth follows no_not in
    let same = sym c.if-take_off.ensures.0 in (
      subst (λ (o : List Operator). Follows schema any o tokens c.write_and.new.self.steps.items depth) same (as_any a.0),
      subst (EndsWithout Not) same a.1,
      subst (EndsWithout And) same a.2,
      subst (EndsWithout Or) same c.if-take_off.ensures.1,
    )

pub returns-in_err-write_and-clause-memory : goal.returns-in_err-write_and-clause-memory
returns-in_err-write_and-clause-memory c = λ schema tokens depth follows no_not.
    let p = err_from_is_err_and c.from_residual.result c.from_residual.ensures.1 in rw p.1 (c.in_err-write_and.ensures.memory schema tokens depth follows)

pub returns-in_err-push-clause-memory : goal.returns-in_err-push-clause-memory
returns-in_err-push-clause-memory c = λ schema tokens depth follows no_not.
    let a = c.in_ok-write_and.ensures.written schema tokens depth follows no_not in
    let p = err_from_is_err_and c.from_residual-in_err-push.result c.from_residual-in_err-push.ensures.1 in
    rw p.1 (has_or all _ _ tokens _ depth a.0 c.if-take_off.ensures)
