use Rattle.std.proofs.Common.{◌≡◌, ◌∷◌, Some, sym, ap, ◌∙◌}
use Rattle.json.specs.Reads.{token_of}
use Rattle.json.specs.Token.{Token}
use Rattle.tv_json.specs.BorrowedData.{data_of}
use Rattle.tv_json.proofs.Levels.{data_of-Null, data_of-Bool, data_of-String}
use Rattle.tv_json.proofs.Turns.{null-read, boolean-read, string-read, number-read}
use Rattle.tv_json.proofs.read.begin.Goals as goal

pub returns-in-String-clause-begins : goal.returns-in-String-clause-begins
returns-in-String-clause-begins c depth =
    let s = c.in-String.text in
    let first : c.args.reader.now ≡ Token.string s.now ∷ c.next.new.self = c.in_ok-text.ensures.value ∙ ap (λ k. token_of k ∷ c.next.new.self) c.in-String.is in
    string-read depth c.args.reader.now c.next.new.self s.now first ∙ ap (λ d. Some (d, c.next.new.self)) (sym (data_of-String s))

pub returns-in_ok-read_number-in-Number-clause-begins : goal.returns-in_ok-read_number-in-Number-clause-begins
returns-in_ok-read_number-in-Number-clause-begins c depth =
    let s = c.in-Number.text in
    let first : c.args.reader.now ≡ Token.number s.now ∷ c.next.new.self = c.in_ok-text.ensures.value ∙ ap (λ k. token_of k ∷ c.next.new.self) c.in-Number.is in
    let v = c.in_ok-read_number-in-Number.field-0 in
    number-read depth c.args.reader.now c.next.new.self s.now (data_of v) first (sym c.in_ok-read_number-in-Number.ensures.found)

pub returns-in-Bool-clause-begins : goal.returns-in-Bool-clause-begins
returns-in-Bool-clause-begins c depth =
    let b = c.in-Bool.truth in
    let first : c.args.reader.now ≡ Token.boolean b ∷ c.next.new.self = c.in_ok-text.ensures.value ∙ ap (λ k. token_of k ∷ c.next.new.self) c.in-Bool.is in
    boolean-read depth c.args.reader.now c.next.new.self b first ∙ ap (λ d. Some (d, c.next.new.self)) (sym (data_of-Bool b))

pub returns-in-Null-clause-begins : goal.returns-in-Null-clause-begins
returns-in-Null-clause-begins c depth =
    let first : c.args.reader.now ≡ Token.null ∷ c.next.new.self = c.in_ok-text.ensures.value ∙ ap (λ k. token_of k ∷ c.next.new.self) c.in-Null.is in
    null-read depth c.args.reader.now c.next.new.self first ∙ ap (λ d. Some (d, c.next.new.self)) (sym data_of-Null)
