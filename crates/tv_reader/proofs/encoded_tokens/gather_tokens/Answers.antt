use Rattle.std.proofs.Common.{arith, ◌-◌, ◌+◌, ◌++◌, ◌∷◌, [], refl}
use Rattle.std.proofs.lemmas.Result.{err_from_is_err_and}
use Rattle.tv_base.specs.Take.{read_stop}
use Rattle.tv_base.specs.declared.cause.ReadError.TheVariants.{Memory}
use Rattle.tv_base.proofs.ItemLoop.{with_prefix, start, next, none}
use Rattle.tv_base.proofs.TakeSteps.{SoFar-start, SoFar-step, SoFar-fails, SoFar-returns, SoFar-stops}
use Rattle.tv_reader.specs.Leaves.{token_at, tokens_at}
use Rattle.tv_reader.proofs.encoded_tokens.gather_tokens.Goals as goal

pub loop-init : goal.loop-init
loop-init g c = rw c.none-tokens.ensures (SoFar-start _ _ _ _ _ _ _ (start token_at c.args.announced))

pub returns-in_err-token : goal.returns-in_err-token
returns-in_err-token g c =
    let p = err_from_is_err_and c.from_residual.result c.from_residual.ensures.1 in
    let l = c.loop in
    let prefix = g.G.TokenBuffer.tokens l.tokens in
    record { takes = rw (p.1, p.2) (SoFar-fails _ _ (λ x. with_prefix (prefix ++ x.0 ∷ []) (tokens_at (c.args.announced - (l.counter + 1)) x.1)) (next token_at prefix c.args.announced l.counter c.loop-test.true) l.invariant c.in_err-token.ensures.takes) }

pub returns-in_err-put : goal.returns-in_err-put
returns-in_err-put g c =
    let p = err_from_is_err_and c.from_residual-in_err-put.result c.from_residual-in_err-put.ensures.1 in
    let l = c.loop in
    let prefix = g.G.TokenBuffer.tokens l.tokens in
    let step = SoFar-step (λ x. with_prefix (prefix ++ x.0 ∷ []) (tokens_at (c.args.announced - (l.counter + 1)) x.1)) (next token_at prefix c.args.announced l.counter c.loop-test.true) l.invariant c.in_ok-token.ensures.takes in
    record { takes = rw (p.1, p.2) (SoFar-stops read_stop _ Memory refl tt step) }

pub loop-preserved : goal.loop-preserved
loop-preserved g c =
    let l = c.loop in
    let prefix = g.G.TokenBuffer.tokens l.tokens in
    let step = SoFar-step (λ x. with_prefix (prefix ++ x.0 ∷ []) (tokens_at (c.args.announced - (l.counter + 1)) x.1)) (next token_at prefix c.args.announced l.counter c.loop-test.true) l.invariant c.in_ok-token.ensures.takes in
    rw c.in_ok-put.ensures step

pub returns : goal.returns
returns g c =
    let l = c.loop in
    record { takes = SoFar-returns read_stop _ _ (none token_at (g.G.TokenBuffer.tokens l.tokens) c.args.announced l.counter (omega arith)) l.invariant }
