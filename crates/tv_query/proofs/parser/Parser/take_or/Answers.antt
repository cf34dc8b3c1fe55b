use Rattle.std.proofs.Common.{[], ◌∷◌, ◌++◌}
use Rattle.tv_query.specs.Tokens.{or_word}
use Rattle.tv_query.proofs.Parsing.{waits_or}
use Rattle.tv_query.proofs.parser.Parser.take_or.Goals as goal

pub returns : goal.returns
returns c = λ schema tokens depth follows no_not.
    let a = c.in_ok-write_or.ensures.written schema tokens depth follows no_not in
    c.wait.ensures schema (tokens ++ or_word ∷ []) depth (waits_or a.0 a.1 a.2 a.3)
