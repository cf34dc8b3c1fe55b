use Rattle.std.proofs.Common.{List, [], ◌∷◌, ◌++◌, subst, sym}
use Rattle.tv_query.specs.Grammar.{factor}
use Rattle.tv_query.specs.Parsing.{Follows}
use Rattle.tv_query.specs.Tokens.{clause}
use Rattle.tv_query.specs.declared.query.Step.{Step}
use Rattle.tv_query.proofs.Parsing.{selected}
use Rattle.tv_query.proofs.parser.Parser.add_clause.Goals as goal

pub returns : goal.returns
returns c = λ schema tokens depth path wanted selects awaits.
    c.end_operand.ensures schema (tokens ++ clause path wanted ∷ []) depth
    (subst (λ (s : List Step). Follows schema factor c.args.self.now.operators.items (tokens ++ clause path wanted ∷ []) s depth) (sym c.in_ok-push.ensures.items) (selected path wanted c.args.selection selects awaits))
