use Rattle.std.proofs.Common.{◌≡◌, [], ◌∷◌, Some, None, sym, ◌∙◌}
use Rattle.std.specs.Prelude.{MatchOption}
use Rattle.std.proofs.lemmas.Result.{err_from_is_err_and}
use Rattle.json.specs.Lex.{tokens}
use Rattle.json.specs.Reads.{token_of}
use Rattle.tv_doc.specs.NotedFields.{ChecksKeys}
use Rattle.tv_doc.specs.StrictJson.{IsObject, OfItsKeys}
use Rattle.tv_doc.proofs.CheckedKeys.{memory_refused, none_read, read_behind}
use Rattle.tv_doc.proofs.strict_json.check_keys.Goals as goal

pub returns-in_err-note_none : goal.returns-in_err-note_none
returns-in_err-note_none c =
    let p = err_from_is_err_and c.from_residual.result c.from_residual.ensures.1 in
    rw p.1 (memory_refused c.args.schema.now c.args.text.now p.0 p.2)

pub returns-in_err-reader : goal.returns-in_err-reader
returns-in_err-reader c =
    let p = err_from_is_err_and c.from_residual-in_err-reader.result c.from_residual-in_err-reader.ensures.1 in
    rw p.1 (memory_refused c.args.schema.now c.args.text.now p.0 p.2)

pub returns : goal.returns
returns c =
    let schema = c.args.schema.now in
    let text = c.args.text.now in
    let r = c.check_members.result in
    let whole : c.in_ok-reader.reader ≡ tokens text = c.in_ok-reader.ensures.ok in
    elim (c.next.result) as (λ first. MatchOption first ((c.in_ok-reader.reader ≡ []) × (c.next.new.self ≡ [])) (λ t. c.in_ok-reader.reader ≡ token_of t ∷ c.next.new.self)
    → IsObject text → OfItsKeys text (ChecksKeys schema r)) [
      | None ↦ λ none. none_read text (ChecksKeys schema r) (sym whole ∙ none.0)
      | Some t ↦ λ begins. read_behind schema text (token_of t) c.next.new.self r (sym whole ∙ begins) c.check_members.ensures
    ] c.next.ensures.value
