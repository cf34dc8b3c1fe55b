use Rattle.std.proofs.Common.{[], Err, ◌∙◌, ap, sym, subst, append-nil, arith}
use Rattle.std.proofs.lemmas.Result.{err_from_is_err_and}
use Rattle.tv_reader.specs.Version.{version_of}
use Rattle.tv_format.specs.Short.{short_document}
use Rattle.tv_format.specs.Version.{IsWritten}
use Rattle.tv_store.proofs.Migrations.{is_written, not_full}
use Rattle.tv_store.proofs.migration_trip.migrations_are_read_back.Goals as goal

pub read_back-requires-clause-written : goal.read_back-requires-clause-written
read_back-requires-clause-written c = subst IsWritten (sym c.requires.new_version) (is_written c.args.to)

pub read_back-requires-clause-begins : goal.read_back-requires-clause-begins
read_back-requires-clause-begins c =
    let d = c.requires.begins.0 in
    let room = c.requires.begins.1 in
    let rest = room.0 in
    let begins = room.1.0 in
    let written = c.in_ok-written.ensures.written d room in
    let same = c.as_slice.ensures.value ∙ written ∙ ap (λ v. short_document v d) (sym c.requires.new_version) ∙ sym (append-nil (short_document (version_of c.args.back) d)) in
    (d, ([], (c.in_ok-written.ensures.valid d rest begins, same)))

-- what was written has room
pub returns-in_err-document-clause-memory : goal.returns-in_err-document-clause-memory
returns-in_err-document-clause-memory c =
    let p = err_from_is_err_and c.from_residual-in_err-document.result c.from_residual-in_err-document.ensures.1 in
    let d = c.requires.begins.0 in
    let room = c.requires.begins.1 in
    let rest = room.0 in
    let begins = room.1.0 in
    let small = room.1.1 in
    let written = c.in_ok-written.ensures.written d room in
    let same = c.as_slice.ensures.value ∙ written ∙ ap (λ v. short_document v d) (sym c.requires.new_version) ∙ sym (append-nil (short_document (version_of c.args.back) d)) in
    let full = c.in_err-document.ensures.no_room d [] (c.in_ok-written.ensures.valid d rest begins) same in
    rw (p.1, p.2) (not_full c.in_err-document.field-0.0 (λ e. omega (arith, full (ap (λ z. Err z) e), small)))

pub returns-clause-back : goal.returns-clause-back
returns-clause-back c = λ d room.
    let rest = room.0 in
    let begins = room.1.0 in
    let written = c.in_ok-written.ensures.written d room in
    let same = c.as_slice.ensures.value ∙ written ∙ ap (λ v. short_document v d) (sym c.requires.new_version) ∙ sym (append-nil (short_document (version_of c.args.back) d)) in
    (c.in_ok-document.ensures.found d [] (c.in_ok-written.ensures.valid d rest begins) same).0

pub returns-clause-nothing_left : goal.returns-clause-nothing_left
returns-clause-nothing_left c =
    let d = c.requires.begins.0 in
    let room = c.requires.begins.1 in
    let rest = room.0 in
    let begins = room.1.0 in
    let written = c.in_ok-written.ensures.written d room in
    let same = c.as_slice.ensures.value ∙ written ∙ ap (λ v. short_document v d) (sym c.requires.new_version) ∙ sym (append-nil (short_document (version_of c.args.back) d)) in
    (c.in_ok-document.ensures.found d [] (c.in_ok-written.ensures.valid d rest begins) same).1
