use Rattle.std.proofs.Common.{[], ◌∷◌, ◌++◌}
use Rattle.tv_query.specs.Tokens.{and_word}
use Rattle.tv_query.proofs.Parsing.{waits_and}
use Rattle.tv_query.proofs.parser.Parser.take_and.Goals as goal

pub returns : goal.returns
returns c = λ schema tokens depth follows no_not.
    let a = c.in_ok-write_and.ensures.written schema tokens depth follows no_not in
    c.wait.ensures schema (tokens ++ and_word ∷ []) depth (waits_and a.0 a.1 a.2)
