use Rattle.std.proofs.Common.{refl}
use Rattle.std.proofs.lemmas.Result.{err_from_is_err_and}
use Rattle.tv_doc.specs.Document.{document_of}
use Rattle.tv_lines.proofs.Finds.{leaves_written, not_true}
use Rattle.tv_lines.proofs.find.find_in_document.Goals as goal

pub returns-in_err-write_json-in-Ok-true-clause-searches : goal.returns-in_err-write_json-in-Ok-true-clause-searches
returns-in_err-write_json-in-Ok-true-clause-searches g c = λ known tree is.
    let made = rw (c.in-Ok-true.is, c.in-Ok-true.field-0-test) at (c.in_ok-match_document.ensures.tells tree is) in
    let p = err_from_is_err_and c.from_residual-in_err-write_json-in-Ok-true.result c.from_residual-in_err-write_json-in-Ok-true.ensures.1 in
    let gone = c.in_err-write_json-in-Ok-true.ensures in
    rw (p.1, p.2) (leaves_written c.args.schema.now tree (document_of c.args.document.now) (g.K.ByteSink.held c.args.sink.now) (g.K.ByteSink.held c.write_json.new.sink) _ made.0 gone.errors made.1 (made.2.0 refl) (gone.err known))

pub returns-in_ok-write_json-in-Ok-true-clause-searches : goal.returns-in_ok-write_json-in-Ok-true-clause-searches
returns-in_ok-write_json-in-Ok-true-clause-searches g c = λ known tree is.
    let made = rw (c.in-Ok-true.is, c.in-Ok-true.field-0-test) at (c.in_ok-match_document.ensures.tells tree is) in
    (made.0, made.1, made.2.0 refl, c.in_ok-write_json-in-Ok-true.ensures.ok known)

pub returns-in-Ok-false-clause-searches : goal.returns-in-Ok-false-clause-searches
returns-in-Ok-false-clause-searches g c = λ known tree is.
    let made = rw (c.in-Ok-false.is, c.in-Ok-false.field-0-test) at (c.in_ok-match_document.ensures.tells tree is) in
    (made.0, made.1, (λ m. not_true (made.2.1 m)), refl)
