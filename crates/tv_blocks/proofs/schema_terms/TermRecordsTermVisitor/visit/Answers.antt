use Rattle.std.proofs.Common.{ap, arith, length, take, ◌≡◌, ◌∙◌}
use Rattle.tv_blocks.proofs.SchemaTerms.{takes_none, takes_one}
use Rattle.tv_blocks.proofs.schema_terms.TermRecordsTermVisitor.visit.Goals as goal

pub returns-in-Ok-clause-made : goal.returns-in-Ok-clause-made
returns-in-Ok-clause-made c = takes_one c.args.self.now c.append.new.self c.args.term.now c.append.ensures.document c.in-Ok.ensures.last c.in-Ok.ensures.content

pub returns-in-Err-clause-untaken : goal.returns-in-Err-clause-untaken
returns-in-Err-clause-untaken c =
    let content = c.args.self.now.content in
    let len : c.len-len.result ≡ length content.items = omega (arith, c.len-len.ensures, content.ok.0) in
    takes_none c.args.self.now (record { document = c.append.new.self.document; last = c.append.new.self.last; content = c.truncate.new.self }) c.append.ensures.document c.in-Err.ensures.kept
    (c.truncate.ensures.items ∙ ap (λ n. take n c.append.new.self.content.items) len ∙ c.append.ensures.before)
