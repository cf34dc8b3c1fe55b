use Rattle.std.proofs.lemmas.Result.{IfErr-weaker}
use Rattle.std.proofs.Common.{◌≡◌, subst, sym}
use Rattle.tv_query.specs.Grammar.{wants_operator}
use Rattle.tv_query.specs.Refusals.{HaveOperator, RefusesTaken, TakesMemoryAfter, misplaced}
use Rattle.tv_query.specs.Tokens.{closed}
use Rattle.tv_query.specs.declared.query_error.QueryReason.TheVariants.{Memory, Unopened}
use Rattle.tv_query.proofs.Refusing.{closed_refused, tells-weaker}
use Rattle.tv_query.proofs.parser.Parser.take_operator.Goals as goal

pub returns-in_ok-take_and-in-And-clause-made : goal.returns-in_ok-take_and-in-And-clause-made
returns-in_ok-take_and-in-And-clause-made c = λ schema tokens depth follows no_not. (depth, rw c.in-And.is (c.in_ok-take_and-in-And.ensures schema tokens depth follows no_not))

pub returns-in_ok-take_or-in-Or-clause-made : goal.returns-in_ok-take_or-in-Or-clause-made
returns-in_ok-take_or-in-Or-clause-made c = λ schema tokens depth follows no_not. (depth, rw c.in-Or.is (c.in_ok-take_or-in-Or.ensures schema tokens depth follows no_not))

pub returns-in-Close-clause-made : goal.returns-in-Close-clause-made
returns-in-Close-clause-made c = λ schema tokens depth follows no_not. rw c.in-Close.is (c.take_close.ensures.made schema tokens depth follows no_not)

pub returns-in-Close-clause-refused : goal.returns-in-Close-clause-refused
returns-in-Close-clause-refused c = λ schema tokens depth follows no_not.
    rw c.in-Close.is (IfErr-weaker c.take_close.result _ _ (λ e h. tells-weaker Memory (λ _. HaveOperator tokens) (TakesMemoryAfter schema tokens) (λ e. (e ≡ Unopened) × (depth ≡ 0)) (RefusesTaken schema (wants_operator depth) closed) e (λ k. misplaced (k.1, k.0)) (λ takes why r. let k = closed_refused depth why r in subst (TakesMemoryAfter schema tokens) (sym k.0) (takes why k)) h) (c.take_close.ensures.refused schema tokens depth follows no_not))
