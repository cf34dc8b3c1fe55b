use Rattle.std.proofs.Common.{◌≡◌, [], ◌∷◌, ◌++◌, refl}
use Rattle.std.proofs.lemmas.Result.{err_from_is_err_and}
use Rattle.tv_query.specs.Grammar.{any}
use Rattle.tv_query.specs.Refusals.{HaveOperator}
use Rattle.tv_query.specs.declared.query_error.QueryReason.TheVariants.{Memory, Unopened}
use Rattle.tv_query.proofs.Refusing.{memory_told, tells}
use Rattle.tv_query.specs.Tokens.{closed}
use Rattle.tv_query.proofs.Parsing.{enclosed, none_open, some_open}
use Rattle.tv_query.proofs.parser.Parser.take_close.Goals as goal

pub returns-then-not-take_off-clause-refused : goal.returns-then-not-take_off-clause-refused
returns-then-not-take_off-clause-refused c = λ schema tokens depth follows no_not.
    let a = c.in_ok-write_or.ensures.written schema tokens depth follows no_not in
    tells Memory (λ _. HaveOperator tokens) (λ e. (e ≡ Unopened) × (depth ≡ 0)) Unopened (λ e. cc) (refl, none_open a.0 a.1 a.2 a.3 c.if-not-take_off.ensures.1)

pub returns-clause-made : goal.returns-clause-made
returns-clause-made c = λ schema tokens depth follows no_not.
    let a = c.in_ok-write_or.ensures.written schema tokens depth follows no_not in
    let e = enclosed a.0 c.if-not-take_off.ensures in (e.0, (c.in_ok-end_operand.ensures schema (tokens ++ closed ∷ []) e.0 e.1).1)

pub returns-in_err-write_or-clause-refused : goal.returns-in_err-write_or-clause-refused
returns-in_err-write_or-clause-refused c = λ schema tokens depth follows no_not.
    let p = err_from_is_err_and c.from_residual.result c.from_residual.ensures.1 in
    memory_told c.from_residual.result p.0 (λ _. HaveOperator tokens) (λ e. (e ≡ Unopened) × (depth ≡ 0)) p.1 p.2 (λ why h. c.in_err-write_or.ensures.memory schema tokens depth follows no_not)

pub returns-in_err-end_operand-clause-refused : goal.returns-in_err-end_operand-clause-refused
returns-in_err-end_operand-clause-refused c = λ schema tokens depth follows no_not.
    let a = c.in_ok-write_or.ensures.written schema tokens depth follows no_not in
    let p = err_from_is_err_and c.from_residual-in_err-end_operand.result c.from_residual-in_err-end_operand.ensures.1 in
    memory_told c.from_residual-in_err-end_operand.result p.0 (λ _. HaveOperator tokens) (λ e. (e ≡ Unopened) × (depth ≡ 0)) p.1 p.2 (λ why h. absurd (some_open any _ _ tokens _ depth a.0 c.if-not-take_off.ensures h.1))
