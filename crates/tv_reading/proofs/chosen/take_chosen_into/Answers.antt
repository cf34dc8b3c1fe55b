use Rattle.std.proofs.Common.{inl, arith}
use Rattle.std.proofs.lemmas.Result.{err_from_is_err_and}
use Rattle.tv_reader.specs.Version.{version_of}
use Rattle.tv_reader.proofs.Finding.{finds_any, finds_fails}
use Rattle.tv_reading.specs.Documents.{NoDocument}
use Rattle.tv_reading.specs.ChosenFields.{EncodesChosen}
use Rattle.tv_reading.proofs.ChosenDocuments.{number_taken, pair_taken, pair_refused, pair_has_none, all_taken}
use Rattle.tv_reading.proofs.ChosenRuns.{run_taken}
use Rattle.tv_reading.proofs.chosen.take_chosen_into.Goals as goal

pub returns-in_err-announced-clause-finds : goal.returns-in_err-announced-clause-finds
returns-in_err-announced-clause-finds g c =
    let p = err_from_is_err_and c.from_residual.result c.from_residual.ensures.1 in
    let v = version_of c.args.version in
    rw (p.1, p.2) (finds_fails (EncodesChosen v c.args.fields.now) (NoDocument v) (λ w e f. inl f) (finds_any (λ e n may. may.0.0) c.in_err-announced.ensures.finds))

pub loop-init : goal.loop-init
loop-init g c =
    let v = version_of c.args.version in
    let number = number_taken v c.args.fields.now c.in_ok-announced.announced c.args.empty c.requires c.in_ok-announced.ensures.finds in
    run_taken v c.args.fields.now c.in_ok-announced.announced c.args.empty c.take_buffered_chosen-taken.new.document c.take_buffered_chosen-taken.result number c.take_buffered_chosen-taken.ensures.finds

pub loop-preserved : goal.loop-preserved
loop-preserved g c =
    pair_taken (version_of c.args.version) c.args.fields.now c.in_ok-announced.announced c.loop.counter c.loop.document c.in_ok-document.document c.loop.invariant c.in_ok-document.ensures.finds

pub returns-in_err-document-clause-finds : goal.returns-in_err-document-clause-finds
returns-in_err-document-clause-finds g c =
    let p = err_from_is_err_and c.from_residual-in_err-document.result c.from_residual-in_err-document.ensures.1 in
    rw (p.1, p.2) (pair_refused (version_of c.args.version) c.args.fields.now c.in_ok-announced.announced c.loop.counter c.loop.document (omega (arith, c.loop-test.true)) c.loop.invariant c.in_err-document.ensures.finds)

pub returns-in_err-document-clause-no_room : goal.returns-in_err-document-clause-no_room
returns-in_err-document-clause-no_room g c =
    let p = err_from_is_err_and c.from_residual-in_err-document.result c.from_residual-in_err-document.ensures.1 in
    rw (p.1, p.2) (λ told full. pair_has_none (version_of c.args.version) c.args.fields.now c.in_ok-announced.announced c.loop.counter c.loop.document (omega (arith, c.loop-test.true)) c.loop.invariant told (c.in_err-document.ensures.no_room (c.loop.invariant.stays_known told) full))

pub returns-clause-finds : goal.returns-clause-finds
returns-clause-finds g c =
    all_taken (version_of c.args.version) c.args.fields.now c.in_ok-announced.announced c.loop.counter c.loop.document (omega (arith, c.loop-test.false, c.loop.auto.counter-end)) c.loop.invariant
