use Rattle.std.proofs.Common.{inl, inr, refl}
use Rattle.std.proofs.lemmas.Result.{err_from_is_err_and}
use Rattle.tv_reader.specs.Version.{version_of}
use Rattle.tv_reader.proofs.Finding.{finds_fails}
use Rattle.tv_reading.specs.Skip.{OpensItem, ErrorInItem}
use Rattle.tv_reading.proofs.Left.{opened_ended}
use Rattle.tv_reading.proofs.Passing.{finds_after}
use Rattle.tv_reading.proofs.items.skip_item.Goals as goal

pub returns-in_err-skip_before-clause-finds : goal.returns-in_err-skip_before-clause-finds
returns-in_err-skip_before-clause-finds g c =
    let p = err_from_is_err_and c.from_residual.result c.from_residual.ensures.1 in
    let v = version_of c.args.version in
    rw (p.1, p.2) (finds_fails (OpensItem v c.args.kind) (ErrorInItem v c.args.kind) (λ w r f. inl f) c.in_err-skip_before.ensures.finds)

pub returns-clause-finds : goal.returns-clause-finds
returns-clause-finds g c =
    let v = version_of c.args.version in
    finds_after (OpensItem v c.args.kind) (ErrorInItem v c.args.kind) (opened_ended v)
    (λ a b o p q. record { prefix = a; rest = b; joined = refl; first = p; second = q })
    (λ a w r p f. inr (record { prefix = a; rest = w; joined = refl; first = p; second = f }))
    c.in_ok-skip_before.ensures.finds c.skip_head.ensures.finds
