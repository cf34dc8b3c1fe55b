use Rattle.std.proofs.Common.{true, refl}
use Rattle.std.proofs.lemmas.Result.{err_from_is_err_and}
use Rattle.tv_reader.specs.Version.{version_of}
use Rattle.tv_typed.proofs.DeserializeSteps.{next_then, next_code_fails, reads_calm, goes_marked}
use Rattle.tv_typed.proofs.DepthSteps.{deep_behind}
use Rattle.tv_typed.proofs.NextSteps.{next_read}
use Rattle.tv_reader.proofs.DepthSteps.{err_of}
use Rattle.tv_typed.proofs.store_reader.StoreReader.read.Goals as goal

pub returns-in_err-kind : goal.returns-in_err-kind
returns-in_err-kind g c =
    let p = err_from_is_err_and c.from_residual.result c.from_residual.ensures.1 in
    let V = g.V.ValueDeserialize in
    let r = c.in_err-kind.ensures.reads in
    rw (p.1, p.2) (next_read V g.met.V.ValueDeserialize.excludes (next_code_fails V.is V.refused (version_of c.args.self.now.version) r) r.marks_failure
    (λ o t is. absurd (reads_calm _ refl r (err_of _ _ is))) (λ o t is. absurd cc))

pub returns-in-Ok : goal.returns-in-Ok
returns-in-Ok g c =
    let V = g.V.ValueDeserialize in
    let p = c.in_ok-kind.ensures.reads in
    let r = c.in-Ok.ensures in
    let within = deep_behind _ (λ v l old new. V.within v l c.in_ok-kind.kind old new) p (λ o t is. r.within o t is) in
    next_read V g.met.V.ValueDeserialize.excludes (next_then V.is V.refused p r.deserializes) r.deserializes.unmarked
    (λ o t is. absurd cc) (λ o t is. let x = within o t is in (c.in_ok-kind.kind, _, x.0, x.1))

pub returns-in-Err : goal.returns-in-Err
returns-in-Err g c =
    let V = g.V.ValueDeserialize in
    let p = c.in_ok-kind.ensures.reads in
    let r = c.in-Err.ensures in
    let deep = deep_behind _ (λ v l old new. V.deep v l c.in_ok-kind.kind old new) p (λ o t is. r.deep o t is) in
    next_read V g.met.V.ValueDeserialize.excludes (goes_marked true tt (next_then V.is V.refused p r.deserializes)) refl
    (λ o t is. let x = deep o t is in (c.in_ok-kind.kind, _, x.0, x.1)) (λ o t is. absurd cc)
