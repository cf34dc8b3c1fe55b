use Rattle.std.proofs.Common.{ℕ, List, arith, length, sym, ap, take, true, false, ◌≡◌, ◌++◌, ◌∙◌}
use Rattle.tv_blocks.specs.SchemaTerms.{document_records, fault_record}
use Rattle.tv_doc.specs.Document.{document_of}
use Rattle.tv_blocks.proofs.SchemaTerms.{all_taken, some_taken}
use Rattle.tv_blocks.proofs.schema_terms.append_document.Goals as goal

pub returns-in-Ok-clause-ok : goal.returns-in-Ok-clause-ok
returns-in-Ok-clause-ok c =
    let records = c.args.records.now in
    let all = all_taken c.args.schema.now (document_of c.args.document.now) (record { document = records.document; last = c.clear.new.self; content = records.content }) c.visit_terms.new.visitor c.clear.ensures.items c.in-Ok.ensures.answers in
    (λ without. all.0, all.2)

pub returns-in-Ok-clause-document : goal.returns-in-Ok-clause-document
returns-in-Ok-clause-document c =
    let records = c.args.records.now in
    (all_taken c.args.schema.now (document_of c.args.document.now) (record { document = records.document; last = c.clear.new.self; content = records.content }) c.visit_terms.new.visitor c.clear.ensures.items c.in-Ok.ensures.answers).1

pub returns-in_ok-append_fault-in-Err-clause-ok : goal.returns-in_ok-append_fault-in-Err-clause-ok
returns-in_ok-append_fault-in-Err-clause-ok c =
    let records = c.args.records.now in
    let old = records.content.items in
    let taken = c.visit_terms.new.visitor in
    let error = c.in-Err.error in
    let kept = some_taken (record { document = records.document; last = c.clear.new.self; content = records.content }) taken c.in-Err.ensures.kept in
    let len : c.len-len.result ≡ length old = omega (arith, c.len-len.ensures, records.content.ok.0) in
    let cut = c.truncate.ensures.items ∙ ap (λ n. take n taken.content.items) len ∙ kept.1 in
    let none = c.in-Err.ensures.answers.0 c.in_ok-append_fault-in-Err.ensures.told in (
      λ without. let both : true ≡ false = sym c.if-with_faults.true ∙ without in absurd cc,
      c.in_ok-append_fault-in-Err.ensures.appended ∙ ap (λ (l : List ℕ). l ++ fault_record taken.document error) cut ∙ ap (λ (n : ℕ). old ++ fault_record n error) kept.0
          ∙ ap (λ t. old ++ document_records records.document t) (sym none),
    )

pub returns-in_ok-append_fault-in-Err-clause-document : goal.returns-in_ok-append_fault-in-Err-clause-document
returns-in_ok-append_fault-in-Err-clause-document c =
    let records = c.args.records.now in
    (some_taken (record { document = records.document; last = c.clear.new.self; content = records.content }) c.visit_terms.new.visitor c.in-Err.ensures.kept).0
