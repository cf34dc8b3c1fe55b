use Rattle.std.proofs.Common.{refl}
use Rattle.std.proofs.lemmas.Result.{err_from_is_err_and}
use Rattle.tv_base.specs.Stop.{lifted}
use Rattle.tv_base.proofs.TakeSteps.{SoFar-fails, SoFar-start, SoFar-step, SoFar-then}
use Rattle.tv_format.specs.InputError.{corrupted}
use Rattle.tv_reader.specs.Error.{StoreMayStopLean}
use Rattle.tv_reader.specs.HeadReading.{head_at, head_part, value_head_at}
use Rattle.tv_reader.specs.Trees.{NoValue}
use Rattle.tv_reader.specs.Version.{version_of}
use Rattle.tv_reader.proofs.AgreeKinds.{kind_agrees}
use Rattle.tv_reader.proofs.BehindKinds.{code_value}
use Rattle.tv_reader.proofs.Finding.{finds_part_fails, raised_lean}
use Rattle.tv_reader.proofs.HeadSteps.{HeadEncoded, head_found, head_fails}
use Rattle.tv_reader.proofs.Raised.{raised_fails, raised_ok}
use Rattle.tv_reader.proofs.heads.take_head.Goals as goal

pub returns-in_err-kind-clause-finds : goal.returns-in_err-kind-clause-finds
returns-in_err-kind-clause-finds g c =
    let p = err_from_is_err_and c.from_residual.result c.from_residual.ensures.1 in
    let v = version_of c.args.version in
    rw (p.1, p.2) (finds_part_fails (HeadEncoded c.args.version) (NoValue v) raised_lean g.met.S.ByteSource.are_bytes kind_agrees (code_value v) c.in_err-kind.ensures.takes)

pub returns-in_err-head-clause-finds : goal.returns-in_err-head-clause-finds
returns-in_err-head-clause-finds g c =
    let p = err_from_is_err_and c.from_residual-in_err-head.result c.from_residual-in_err-head.ensures.1 in
    rw (p.1, p.2) (head_fails c.args.version g.met.S.ByteSource.are_bytes c.in_ok-kind.ensures.takes c.in_err-head.ensures.takes)

pub returns-clause-finds : goal.returns-clause-finds
returns-clause-finds g c = head_found c.args.version g.met.S.ByteSource.are_bytes c.in_ok-kind.ensures.takes c.in_ok-head.ensures.takes

pub returns-in_err-kind-clause-takes : goal.returns-in_err-kind-clause-takes
unfolding value_head_at
returns-in_err-kind-clause-takes g c =
    let p = err_from_is_err_and c.from_residual.result c.from_residual.ensures.1 in
    let v = version_of c.args.version in
    rw (p.1, p.2) (SoFar-fails head_part _ (λ x. lifted corrupted (head_at v x.0 x.1)) (λ _. refl) (SoFar-start _ _ _ _ _ (value_head_at v) (value_head_at v) (λ _. refl)) (raised_fails raised_lean c.in_err-kind.ensures.takes))

pub returns-in_err-head-clause-takes : goal.returns-in_err-head-clause-takes
unfolding value_head_at
returns-in_err-head-clause-takes g c =
    let p = err_from_is_err_and c.from_residual-in_err-head.result c.from_residual-in_err-head.ensures.1 in
    let v = version_of c.args.version in
    rw (p.1, p.2) (SoFar-then (SoFar-step (λ x. lifted corrupted (head_at v x.0 x.1)) (λ _. refl) (SoFar-start _ _ _ _ _ (value_head_at v) (value_head_at v) (λ _. refl)) (raised_ok {StoreMay = StoreMayStopLean} c.in_ok-kind.ensures.takes)) (raised_fails raised_lean c.in_err-head.ensures.takes))

pub returns-clause-takes : goal.returns-clause-takes
unfolding value_head_at
returns-clause-takes g c =
    let v = version_of c.args.version in
    SoFar-then (SoFar-step (λ x. lifted corrupted (head_at v x.0 x.1)) (λ _. refl) (SoFar-start _ _ _ _ _ (value_head_at v) (value_head_at v) (λ _. refl)) (raised_ok {StoreMay = StoreMayStopLean} c.in_ok-kind.ensures.takes)) (raised_ok c.in_ok-head.ensures.takes)
