use Rattle.std.proofs.lemmas.Result.{err_from_is_err_and}
use Rattle.tv_format.specs.Version.{entry_total}
use Rattle.tv_reader.specs.Version.{version_of}
use Rattle.tv_reader.specs.declared.value_type.ValueType.TheVariants as types
use Rattle.tv_typed.proofs.ListSteps.{length_mismatch, entries_read}
use Rattle.tv_base.proofs.TakeSteps.{lean}
use Rattle.tv_typed.proofs.TypedSteps.{raised_spares, mismatch_spares}
use Rattle.tv_typed.proofs.store_reader.StoreReader.object_length.Goals as goal

pub returns-in_err-expect-clause-reads : goal.returns-in_err-expect-clause-reads
returns-in_err-expect-clause-reads g c =
    let p = err_from_is_err_and c.from_residual.result c.from_residual.ensures.1 in
    let e = c.in_err-expect.ensures in
    rw (p.1, p.2) (length_mismatch _ _ _ _ _ c.args.kind types.Object (entry_total (version_of c.args.self.now.version)) _ _ e.err e.source e.count e.version e.levels e.marks_failure)

pub returns-clause-reads : goal.returns-clause-reads
returns-clause-reads g c =
    let e = c.in_ok-expect.ensures in
    let m = c.marked.ensures in
    entries_read c.args.self.now c.expect.new.self c.marked.new.self c.marked.result c.args.kind g.met.S.ByteSource.are_bytes e.ok.2 e.ok.0 e.source e.count e.version e.levels (lean c.take_entry_count-answer.ensures.takes) m.source m.count m.version m.levels m.marks_failure m.told

pub returns-in_err-expect-clause-no_memory : goal.returns-in_err-expect-clause-no_memory
returns-in_err-expect-clause-no_memory g c =
    let p = err_from_is_err_and c.from_residual.result c.from_residual.ensures.1 in
    rw (p.1, p.2) (mismatch_spares (λ same. cc) c.in_err-expect.ensures.err)

pub returns-clause-no_memory : goal.returns-clause-no_memory
returns-clause-no_memory g c = raised_spares c.take_entry_count-answer.result c.marked.result _ c.marked.ensures.told c.take_entry_count-answer.ensures.takes.may_stop
