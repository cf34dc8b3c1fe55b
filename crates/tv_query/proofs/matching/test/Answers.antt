use Rattle.std.proofs.Common.{◌<◌, false, length, refl, sym, arith}
use Rattle.std.proofs.lemmas.Option.{get_or_from_slice_get, slice_get_read}
use Rattle.tv_query.proofs.Telling.{all_tested, tested_one}
use Rattle.tv_query.proofs.matching.test.Goals as goal

pub loop-index-preserved : goal.loop-index-preserved
loop-index-preserved c =
    let l = c.loop-index in
    let steps = c.args.steps.now in
    let within : l.index < length l.wanted.items = omega (arith, c.loop-index-test.true, c.requires, l.invariant.0) in
    let few : l.index < length steps = omega (arith, c.loop-index-test.true) in
    let at = slice_get_read steps (length steps) l.index c.index-steps-index.result refl few c.index-steps-index.is in
    let held = slice_get_read l.wanted.items (length l.wanted.items) l.index c.index.result.now refl within c.index.ensures in
    let told = sym (get_or_from_slice_get l.wanted.items l.index c.index.result.now false held) in
    tested_one c.args.term.now steps c.args.wanted.now.items l.wanted.items l.index c.index-steps-index.result c.index.result.now c.test_one.result within at told c.test_one.ensures l.invariant

pub returns : goal.returns
returns c = all_tested c.args.term.now c.args.steps.now c.args.wanted.now.items c.loop-index.wanted.items c.loop-index.index c.loop-index-test.false c.loop-index.invariant
