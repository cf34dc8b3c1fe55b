use Rattle.std.proofs.Common.{[], ◌∷◌, ◌++◌, ◌+◌, refl}
use Rattle.tv_query.specs.Parsing.{after_not, after_open}
use Rattle.std.proofs.lemmas.Result.{err_from_is_err_and}
use Rattle.tv_query.specs.Grammar.{wants_operand}
use Rattle.tv_query.specs.Refusals.{RefusesTaken, TakesMemoryAfter, refused}
use Rattle.tv_query.specs.Selections.{RefusesClause, TakesMemory}
use Rattle.tv_query.specs.Tokens.{clause, not_word, opened, wanted_text}
use Rattle.tv_query.specs.declared.query_error.QueryReason.TheVariants.{Memory}
use Rattle.tv_query.proofs.Refusing.{clause_refused, takes_after, memory_told, tells-weaker}
use Rattle.tv_query.proofs.OneQuery.{clause_or_refused}
use Rattle.tv_query.proofs.parser.Parser.take_operand.Goals as goal

pub returns-in_ok-wait-in-Open-clause-made : goal.returns-in_ok-wait-in-Open-clause-made
returns-in_ok-wait-in-Open-clause-made c = λ tokens depth awaits.
    (depth + 1, rw c.in-Open.is (c.in_ok-wait-in-Open.ensures c.args.schema.now (tokens ++ opened ∷ []) (depth + 1) (after_open awaits)))

pub returns-in_ok-wait-in-Not-clause-made : goal.returns-in_ok-wait-in-Not-clause-made
returns-in_ok-wait-in-Not-clause-made c = λ tokens depth awaits.
    (depth, rw c.in-Not.is (c.in_ok-wait-in-Not.ensures c.args.schema.now (tokens ++ not_word ∷ []) depth (after_not awaits)))

pub returns-in_ok-add_clause-in-Ok-clause-made : goal.returns-in_ok-add_clause-in-Ok-clause-made
returns-in_ok-add_clause-in-Ok-clause-made c = λ tokens depth awaits.
    (depth, rw c.in-Clause.is ((c.in_ok-add_clause-in-Ok.ensures c.args.schema.now tokens depth c.in-Clause.path.now (wanted_text c.in-Clause.wanted) c.in-Ok.ensures awaits).1))

pub returns-in-Err-clause-refused : goal.returns-in-Err-clause-refused
returns-in-Err-clause-refused c = λ tokens depth.
    let schema = c.args.schema.now in
    let path = c.in-Clause.path.now in
    let wanted = wanted_text c.in-Clause.wanted in
    rw c.in-Clause.is (tells-weaker Memory (TakesMemory schema) (TakesMemoryAfter c.args.schema.now tokens) (RefusesClause schema path wanted) (RefusesTaken schema (wants_operand depth) (clause path wanted)) c.in-Err.reason
    (λ r. refused refl (λ e. cc) r) (λ takes why r. takes_after schema tokens why (takes why (clause_refused (wants_operand depth) path wanted why (λ e. cc) r))) c.in-Err.ensures)

pub returns-in_err-add_clause-in-Ok-clause-refused : goal.returns-in_err-add_clause-in-Ok-clause-refused
returns-in_err-add_clause-in-Ok-clause-refused c = λ tokens depth.
    let schema = c.args.schema.now in
    let path = c.in-Clause.path.now in
    let wanted = wanted_text c.in-Clause.wanted in
    let p = err_from_is_err_and c.from_residual-in_err-add_clause-in-Ok.result c.from_residual-in_err-add_clause-in-Ok.ensures.1 in
    rw c.in-Clause.is (memory_told c.from_residual-in_err-add_clause-in-Ok.result p.0 (TakesMemoryAfter c.args.schema.now tokens) (RefusesTaken schema (wants_operand depth) (clause path wanted)) p.1 p.2
    (λ why r. absurd (clause_or_refused schema path wanted c.in-Ok.selection why c.in-Ok.ensures (clause_refused (wants_operand depth) path wanted why (λ e. cc) r))))
