use Rattle.std.proofs.Common.{refl}
use Rattle.std.proofs.lemmas.Result.{err_from_is_err_and}
use Rattle.tv_base.specs.Number.{VNum}
use Rattle.tv_typed.specs.Documents.{NumberRefused, in_pair_count}
use Rattle.tv_base.proofs.AgreeNumbers.{vint_agrees}
use Rattle.tv_base.proofs.TakeSteps.{lean}
use Rattle.tv_typed.proofs.TypedSteps.{reads_closed, reads_part, raised_spares}
use Rattle.tv_typed.proofs.store_reader.StoreReader.pair_count.Goals as goal

pub returns-in_err-go_on-clause-reads : goal.returns-in_err-go_on-clause-reads
returns-in_err-go_on-clause-reads g c =
    let p = err_from_is_err_and c.from_residual.result c.from_residual.ensures.1 in
    let e = c.in_err-go_on.ensures.err in
    rw (p.1, p.2) (reads_closed _ _ _ _ _ _ _ _ e.0 e.1 refl refl refl refl e.1)

pub returns-clause-reads : goal.returns-clause-reads
returns-clause-reads g c =
    let m = c.marked.ensures in
    reads_part c.args.self.now c.marked.new.self c.marked.result VNum NumberRefused g.met.S.ByteSource.are_bytes vint_agrees (λ a x h. h) (λ w d f. in_pair_count f) c.in_ok-go_on.ensures.ok (lean c.take_vint-answer.ensures.takes) m.source m.count m.version m.levels m.marks_failure m.told

pub returns-in_err-go_on-clause-no_memory : goal.returns-in_err-go_on-clause-no_memory
returns-in_err-go_on-clause-no_memory g c =
    let p = err_from_is_err_and c.from_residual.result c.from_residual.ensures.1 in
    rw (p.1, p.2, c.in_err-go_on.ensures.err.0) (λ is. absurd cc)

pub returns-clause-no_memory : goal.returns-clause-no_memory
returns-clause-no_memory g c = raised_spares c.take_vint-answer.result c.marked.result _ c.marked.ensures.told c.take_vint-answer.ensures.takes.may_stop
