use Rattle.std.proofs.Common.{ap, sym, ◌∙◌}
use Rattle.tv_lines.proofs.Finds.{terms_named}
use Rattle.tv_doc.specs.Document.{document_of}
use Rattle.tv_indexing.specs.DocumentTerms.{fields_terms}
use Rattle.tv_query.proofs.Telling.{all_taken, same_query}
use Rattle.tv_query.specs.declared.query.Query.{Query}
use Rattle.tv_lines.proofs.find.match_document.Goals as goal

pub returns-in_ok-matches-in-Ok-clause-tells : goal.returns-in_ok-matches-in-Ok-clause-tells
returns-in_ok-matches-in-Ok-clause-tells c = λ tree is.
    let schema = c.args.schema.now in
    let d = document_of c.args.document.now in
    let fields = c.fields-fields.result.now in
    let a = all_taken c.clear.new.self c.visit_terms.new.visitor (fields_terms schema fields d) c.clear.ensures.taken c.in-Ok.ensures.answers in
    let named = terms_named schema tree c.query.result.now.steps.items fields d (ap (λ (q : Query). q.steps.items) (c.query.ensures ∙ c.clear.ensures.query) ∙ is) c.fields-fields.ensures.named in
    (a.0, sym named ∙ a.1, c.in_ok-matches-in-Ok.ensures.truth a.0 tree a.3 (ap (λ (q : Query). q.steps.items) (a.2 ∙ c.clear.ensures.query) ∙ is))

pub returns-in_ok-matches-in-Ok-clause-query : goal.returns-in_ok-matches-in-Ok-clause-query
returns-in_ok-matches-in-Ok-clause-query c =
    let a = all_taken c.clear.new.self c.visit_terms.new.visitor (fields_terms c.args.schema.now c.fields-fields.result.now (document_of c.args.document.now)) c.clear.ensures.taken c.in-Ok.ensures.answers in
    c.in_ok-matches-in-Ok.ensures.query ∙ a.2 ∙ c.clear.ensures.query

pub returns-in_err-matches-in-Ok-clause-query : goal.returns-in_err-matches-in-Ok-clause-query
returns-in_err-matches-in-Ok-clause-query c =
    let a = all_taken c.clear.new.self c.visit_terms.new.visitor (fields_terms c.args.schema.now c.fields-fields.result.now (document_of c.args.document.now)) c.clear.ensures.taken c.in-Ok.ensures.answers in
    c.in_err-matches-in-Ok.ensures.query ∙ a.2 ∙ c.clear.ensures.query

pub returns-in-Memory-clause-query : goal.returns-in-Memory-clause-query
returns-in-Memory-clause-query c = same_query c.clear.new.self c.visit_terms.new.visitor c.in-Err.ensures.kept ∙ c.clear.ensures.query

pub returns-in_default-clause-tells : goal.returns-in_default-clause-tells
returns-in_default-clause-tells c = λ tree is.
    let schema = c.args.schema.now in
    let d = document_of c.args.document.now in
    let named = terms_named schema tree c.query.result.now.steps.items c.fields-fields.result.now d (ap (λ (q : Query). q.steps.items) (c.query.ensures ∙ c.clear.ensures.query) ∙ is) c.fields-fields.ensures.named in
    sym named ∙ c.in-Err.ensures.answers.0 c.in_default.not-Memory

pub returns-in_default-clause-query : goal.returns-in_default-clause-query
returns-in_default-clause-query c = same_query c.clear.new.self c.visit_terms.new.visitor c.in-Err.ensures.kept ∙ c.clear.ensures.query
