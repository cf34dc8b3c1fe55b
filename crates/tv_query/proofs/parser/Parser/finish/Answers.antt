use Rattle.std.proofs.Common.{◌≡◌, ◌≢◌, [], Global, Vec, ap, arith, refl, subst, sym, ◌∙◌}
use Rattle.tv_query.proofs.Parsing.{finished, is_open, no_push, none_open}
use Rattle.tv_query.proofs.Words.{is_empty, not_empty}
use Rattle.std.proofs.lemmas.Result.{err_from_is_err_and}
use Rattle.tv_query.specs.Grammar.{wants_operator}
use Rattle.tv_query.specs.Refusals.{RefusesEnd, TakesMemoryAfter}
use Rattle.tv_query.specs.declared.query.Step.{Step}
use Rattle.tv_query.specs.declared.query_error.QueryReason.TheVariants.{Memory, Unclosed}
use Rattle.tv_query.specs.declared.parser.Operator.TheVariants.{Open}
use Rattle.tv_query.proofs.Refusing.{memory_told, tells}
use Rattle.tv_query.proofs.parser.Parser.finish.Goals as goal

pub returns-then-not-is_empty-clause-refused : goal.returns-then-not-is_empty-clause-refused
returns-then-not-is_empty-clause-refused c = λ schema tokens depth at.
    let w = rw c.if-parser.false at at in
    let a = c.in_ok-write_or.ensures.written schema tokens depth w.0 w.1 in
    let not_empty : c.write_or.new.self.operators.items ≢ [] = rw c.as_slice.ensures.value at (not_empty c.as_slice.result.now c.if-not-is_empty.ensures) in
    rw c.if-parser.false (tells Memory (TakesMemoryAfter schema tokens) (RefusesEnd (wants_operator depth)) Unclosed (λ e. cc) (is_open a.0 a.1 a.2 a.3 not_empty, refl))

pub returns-clause-made : goal.returns-clause-made
returns-clause-made c = λ schema tokens depth at.
    let w = rw c.if-parser.false at at in
    let a = c.in_ok-write_or.ensures.written schema tokens depth w.0 w.1 in
    let empty : c.write_or.new.self.operators.items ≡ [] = sym c.as_slice.ensures.value ∙ is_empty c.as_slice.result.now c.if-not-is_empty.ensures in
    let f = finished a.0 a.1 a.2 a.3 empty in
    (f.0, f.1, ap (λ (steps : Vec Step Global). steps.items) c.in_ok-of_steps.ensures ∙ f.2)

pub returns-in_err-write_or-clause-refused : goal.returns-in_err-write_or-clause-refused
returns-in_err-write_or-clause-refused c = λ schema tokens depth at.
    let w = rw c.if-parser.false at at in
    let p = err_from_is_err_and c.from_residual.result c.from_residual.ensures.1 in
    rw c.if-parser.false (memory_told c.from_residual.result p.0 (TakesMemoryAfter schema tokens) (RefusesEnd (wants_operator depth)) p.1 p.2 (λ why h. subst (TakesMemoryAfter schema tokens) (sym h.1) (c.in_err-write_or.ensures.memory schema tokens depth w.0 w.1)))

pub returns-in_err-of_steps-clause-refused : goal.returns-in_err-of_steps-clause-refused
returns-in_err-of_steps-clause-refused c = λ schema tokens depth at.
    let w = rw c.if-parser.false at at in
    let a = c.in_ok-write_or.ensures.written schema tokens depth w.0 w.1 in
    let empty : c.write_or.new.self.operators.items ≡ [] = sym c.as_slice.ensures.value ∙ is_empty c.as_slice.result.now c.if-not-is_empty.ensures in
    let none : depth ≡ 0 = none_open a.0 a.1 a.2 a.3 (λ before e. no_push before Open (sym empty ∙ e)) in
    let p = err_from_is_err_and c.from_residual-in_err-of_steps.result c.from_residual-in_err-of_steps.ensures.1 in
    rw c.if-parser.false (memory_told c.from_residual-in_err-of_steps.result p.0 (TakesMemoryAfter schema tokens) (RefusesEnd (wants_operator depth)) p.1 p.2 (λ why h. absurd (omega (arith, h.0, none))))
