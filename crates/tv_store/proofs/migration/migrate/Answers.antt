use Rattle.std.proofs.Common.{Ok, Err, refl}
use Rattle.std.proofs.lemmas.Result.{err_from_is_err_and}
use Rattle.tv_store.proofs.Migrations.{rewritten, unwritten}
use Rattle.tv_store.proofs.migration.migrate.Goals as goal

-- the document isn't read
pub returns-in_err-document : goal.returns-in_err-document
returns-in_err-document g c =
    let p = err_from_is_err_and c.from_residual.result c.from_residual.ensures.1 in
    rw (p.1, p.2) (record { read = Err c.in_err-document.field-0.0; reads = c.in_err-document.ensures; rewrites = (refl, refl) })

-- it is read, and isn't written
pub returns-in_err-write_document : goal.returns-in_err-write_document
returns-in_err-write_document g c =
    let p = err_from_is_err_and c.from_residual-in_err-write_document.result c.from_residual-in_err-write_document.ensures.1 in
    let document = c.in_ok-document.document in
    let h = c.in_err-write_document.ensures in
    rw (p.1, p.2) (record { read = Ok document; reads = c.in_ok-document.ensures; rewrites = (c.documents_are_valid.ensures document, unwritten h.writes, h.errors) })

pub returns : goal.returns
returns g c =
    let document = c.in_ok-document.document in
    record { read = Ok document; reads = c.in_ok-document.ensures; rewrites = (c.documents_are_valid.ensures document, rewritten c.in_ok-write_document.ensures.writes, tt) }
