use Rattle.std.proofs.Common.{subst, List, ℕ, Err}
use Rattle.tv_doc.specs.JsonObject.{Parses}
use Rattle.tv_lines.specs.Answers.Answer.{refused}
use Rattle.tv_lines.proofs.Refusing.{document_answers, unwritten_answers, ok_maps, err_maps}
use Rattle.tv_lines.proofs.document_line.append_answer.Goals as goal

pub append_document-requires : goal.append_document-requires
append_document-requires c =
    c.in-Ok-parse_json_into.ensures.belongs

pub returns-in-Ok-parse_json_into-clause-ok : goal.returns-in-Ok-parse_json_into-clause-ok
returns-in-Ok-parse_json_into-clause-ok c =
    let text = c.in-Ok.ensures.cases in
    ok_maps c.append_document.result (λ leaves. document_answers _ _ _ _ c.parse_json_into.new.self text.1 (rw text.0 at c.in-Ok-parse_json_into.ensures.parses) leaves) c.append_document.ensures.ok

pub returns-in-Ok-parse_json_into-clause-err : goal.returns-in-Ok-parse_json_into-clause-err
returns-in-Ok-parse_json_into-clause-err c =
    let text = c.in-Ok.ensures.cases in
    err_maps c.append_document.result (λ answer why. unwritten_answers _ _ _ c.parse_json_into.new.self text.1 (rw text.0 at c.in-Ok-parse_json_into.ensures.parses) why) c.append_document.ensures.err

pub returns-in-Err-clause-err : goal.returns-in-Err-clause-err
returns-in-Err-clause-err c =
    let text = c.in-Ok.ensures.cases in
    refused c.in-Err.error text.1 (subst (λ (l : List ℕ). Parses c.args.schema.now l (Err c.in-Err.error)) text.0 c.in-Err.ensures.parses) c.refusal.ensures
