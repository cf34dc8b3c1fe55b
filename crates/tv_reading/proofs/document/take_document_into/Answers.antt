use Rattle.std.proofs.Common.{inl, arith}
use Rattle.std.proofs.lemmas.Result.{err_from_is_err_and}
use Rattle.tv_reader.proofs.Finding.{finds_any, finds_fails}
use Rattle.tv_reader.specs.Version.{version_of}
use Rattle.tv_reading.specs.Documents.{NoDocument}
use Rattle.tv_reading.proofs.WholeDocuments.{begun_finds, begun_ends, begun_then, begun_no_room}
use Rattle.tv_reading.proofs.document.take_document_into.Goals as goal

pub returns-in_err-announced-clause-finds : goal.returns-in_err-announced-clause-finds
returns-in_err-announced-clause-finds g c =
    let p = err_from_is_err_and c.from_residual.result c.from_residual.ensures.1 in
    rw (p.1, p.2) (finds_fails _ (NoDocument (version_of c.args.version)) (λ w e f. inl f) (finds_any (λ e n may. may.0.0) c.in_err-announced.ensures.finds))

pub returns-then-finished-announced-clause-finds : goal.returns-then-finished-announced-clause-finds
returns-then-finished-announced-clause-finds g c =
    let v = version_of c.args.version in
    let empty = c.args.empty in
    let document = c.take_buffered_pairs-finished.new.document in
    let n = c.in_ok-announced.announced in
    let m = c.take_buffered_pairs-finished.result in
    begun_ends v n empty document c.requires m (omega (arith, c.if-finished-announced.true))
    (begun_finds v n empty document c.requires m c.in_ok-announced.ensures.finds c.take_buffered_pairs-finished.ensures.finds)

pub returns-clause-finds : goal.returns-clause-finds
returns-clause-finds g c =
    let v = version_of c.args.version in
    let empty = c.args.empty in
    let document = c.take_buffered_pairs-finished.new.document in
    let n = c.in_ok-announced.announced in
    let m = c.take_buffered_pairs-finished.result in
    let prefix = begun_finds v n empty document c.requires m c.in_ok-announced.ensures.finds c.take_buffered_pairs-finished.ensures.finds in
    begun_then v n empty document c.requires m c.between_pairs-begun.result c.take_rest.result c.between_pairs-begun.ensures.parts prefix c.take_rest.ensures.finds c.between_pairs-begun.ensures.sound
    (λ done. absurd (omega (arith, c.if-finished-announced.false, c.between_pairs-begun.ensures.done done)))

pub returns-clause-no_room : goal.returns-clause-no_room
returns-clause-no_room g c = λ t full.
    let v = version_of c.args.version in
    let empty = c.args.empty in
    let document = c.take_buffered_pairs-finished.new.document in
    let n = c.in_ok-announced.announced in
    let m = c.take_buffered_pairs-finished.result in
    let prefix = begun_finds v n empty document c.requires m c.in_ok-announced.ensures.finds c.take_buffered_pairs-finished.ensures.finds in
    begun_no_room v n empty document c.requires m c.between_pairs-begun.result c.between_pairs-begun.ensures.parts prefix t (c.take_rest.ensures.no_room (prefix.stays_known t) full)
