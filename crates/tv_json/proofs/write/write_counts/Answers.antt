use Rattle.std.proofs.Common.{ℕ, List, [], ◌∷◌, ◌++◌}
use Rattle.std.specs.Prelude.{decimal}
use lib.Chars.{codes}
use Rattle.json.specs.Token as Token
use Rattle.std.proofs.lemmas.Result.{on_ok_weaker}
use Rattle.tv_json.proofs.Behind.{behind}
use Rattle.tv_json.proofs.write.write_counts.Goals as goal

abbrev count : List ℕ → ℕ → List Token.Token
count key n = Token.key key ∷ Token.number (decimal n) ∷ []

pub returns-clause-ok : goal.returns-clause-ok
returns-clause-ok c =
    let old = c.args.out.now.tokens in
    let token = c.args.token in
    let one = count (codes "offset_from") token.offset_from in
    let two = count (codes "offset_to") token.offset_to in
    let three = count (codes "position") token.position in
    let four = count (codes "position_length") token.position_length in
    let offsets = behind old one two _ _ c.in_ok-write_count.ensures.ok c.in_ok-write_count-2.ensures.ok in
    let places = behind old (one ++ two) three _ _ offsets c.in_ok-write_count-3.ensures.ok in
    on_ok_weaker c.write_count-4.result (λ last. behind old (one ++ two ++ three) four _ _ places last) c.write_count-4.ensures.ok
