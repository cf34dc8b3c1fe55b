use Rattle.std.proofs.Common.{[], length, ◌≡◌, ap, arith}
use Rattle.tv_query.specs.Parsing.{state_of}
use Rattle.tv_query.proofs.Reading.{read_more, read_none, refuses_here}
use Rattle.tv_query.proofs.Refusing.{end_told}
use Rattle.tv_query.proofs.Words.{is_empty}
use Rattle.tv_query.proofs.query.Query.parse.Goals as goal

pub loop-rest-init : goal.loop-rest-init
loop-rest-init c =
    let t = c.trim_ascii_start-rest.ensures.value in
    (c.trim_ascii_start-rest.utf8, read_none c.args.schema.now c.args.text.now c.new-parser.result c.trim_ascii_start-rest.result.now t (c.new-parser.ensures c.args.schema.now), omega (arith, t.2))

pub take_first-requires-clause-no_space : goal.take_first-requires-clause-no_space
take_first-requires-clause-no_space c = c.loop-rest.invariant.1.no_space

pub loop-rest-preserved : goal.loop-rest-preserved
loop-rest-preserved c =
    let i = c.loop-rest.invariant in
    let t = c.trim_ascii_start-rest-in-Ok.ensures.value in
    let m = c.in-Ok.ensures.made i.1.tokens i.1.depth i.1.at in
    (c.trim_ascii_start-rest-in-Ok.utf8, read_more i.1 m.0 m.1 t m.2, omega (arith, t.2, c.in-Ok.ensures.shorter, i.2))

pub returns-in-Err-clause-refused : goal.returns-in-Err-clause-refused
returns-in-Err-clause-refused c =
    let i = c.loop-rest.invariant in refuses_here i.1 _ (omega (arith, i.2)) (c.in-Err.ensures.refused i.1.tokens i.1.depth i.1.at)

pub returns-in-Err-finish-clause-refused : goal.returns-in-Err-finish-clause-refused
returns-in-Err-finish-clause-refused c =
    let i = c.loop-rest.invariant in
    let none : c.loop-rest.rest.now ≡ [] = is_empty c.loop-rest.rest.now c.loop-rest-test.ensures in
    refuses_here i.1 _ (omega (arith, ap length none)) (end_told c.args.schema.now (state_of c.loop-rest.parser i.1.depth) c.loop-rest.rest.now i.1.tokens c.in-Err-finish.reason none (c.in-Err-finish.ensures.refused c.args.schema.now i.1.tokens i.1.depth i.1.at))
