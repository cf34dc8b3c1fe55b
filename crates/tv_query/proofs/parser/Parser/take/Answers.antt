use Rattle.tv_query.proofs.parser.Parser.take.Goals as goal

pub returns-then-self-clause-refused : goal.returns-then-self-clause-refused
returns-then-self-clause-refused c = λ tokens depth at. rw c.if-self.true (c.take_operand.ensures.refused tokens depth)

pub returns-else-self-clause-made : goal.returns-else-self-clause-made
returns-else-self-clause-made c = λ tokens depth at.
    let w = rw c.if-self.false at at in
    c.take_operator.ensures.made c.args.schema.now tokens depth w.0 w.1

pub returns-else-self-clause-refused : goal.returns-else-self-clause-refused
returns-else-self-clause-refused c = λ tokens depth at.
    let w = rw c.if-self.false at at in
    rw c.if-self.false (c.take_operator.ensures.refused c.args.schema.now tokens depth w.0 w.1)
