use Rattle.std.proofs.Common.{length, ap, arith, length-append, ◌∙◌}
use Rattle.std.proofs.Math.Seq.{take-append_seam}
use Rattle.tv_doc.specs.Document.{document_of}
use Rattle.tv_indexing.proofs.Visiting.{all_appended, some_appended}
use Rattle.tv_indexing.specs.DocumentTerms.{wanted_terms}
use Rattle.tv_indexing.proofs.document.append_terms.Goals as goal

pub truncate-requires : goal.truncate-requires
truncate-requires c =
    let more = some_appended c.args.terms.now c.visit_terms.new.visitor c.in-Err.ensures.kept in
    omega (arith, c.len-len.ensures, ap length more.1, length-append c.args.terms.now more.0)

pub returns-in-Ok-clause-answers : goal.returns-in-Ok-clause-answers
returns-in-Ok-clause-answers c =
    all_appended c.args.terms.now c.visit_terms.new.visitor (wanted_terms c.args.schema.now c.args.wanted (document_of c.args.document.now)) c.in-Ok.ensures.answers

pub returns-in-Err-clause-unchanged : goal.returns-in-Err-clause-unchanged
returns-in-Err-clause-unchanged c =
    let more = some_appended c.args.terms.now c.visit_terms.new.visitor c.in-Err.ensures.kept in
    c.truncate.ensures ∙ rw (c.len-len.ensures, more.1) (take-append_seam c.args.terms.now more.0)

pub returns-in-Err-clause-answers : goal.returns-in-Err-clause-answers
returns-in-Err-clause-answers c = c.in-Err.ensures.answers
