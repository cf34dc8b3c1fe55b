use Rattle.tv_query.specs.Parsing.{at_start}
use Rattle.tv_query.proofs.parser.Parser.new.Goals as goal

pub returns : goal.returns
returns c = λ schema. rw (c.new.ensures.items, c.new-2.ensures.items) at_start
