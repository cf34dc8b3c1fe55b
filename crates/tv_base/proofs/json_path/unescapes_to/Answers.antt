use Rattle.std.proofs.Common.{◌≡◌, ◌&&◌, true, false, not, ap, arith, eqb, get_or, rules}
use Rattle.std.proofs.lemmas.Grind.{common_steps}
use Rattle.std.specs.Str.{bytes_eq}
use Rattle.tv_base.specs.Escapes.{kept_byte}
use Rattle.tv_base.proofs.Rewriting.{rewritten-from}
use Rattle.tv_base.proofs.Unescaping.{compare-escape, compare-same, compare-other, compare-none, compare-end}
use Rattle.tv_base.proofs.json_path.unescapes_to.Goals as goal
use Rattle.tv_base.proofs.json_path.unescapes_to.Goals.{then-not-is_escape+in-Some, else-not-is_escape}

pub loop-byte-init : goal.loop-byte-init
loop-byte-init c =
    let all = rewritten-from kept_byte c.args.prefix.now in
    rw (c.as_bytes-rest.ensures.value, c.as_bytes-byte-items.ensures.value) (ap (bytes_eq c.args.name.now) all)

pub loop-byte-preserved : goal.loop-byte-preserved
loop-byte-preserved c =
    elim c.if-not-is_escape.branch [
      | then-not-is_escape+in-Some w ↦
          (let kept : (eqb (get_or c.as_bytes-byte-items.result.now c.loop-byte.byte-index 0) 92 && not c.loop-byte.is_escape) ≡ false = grind (arith, common_steps) in
          let e = compare-same _ (not c.loop-byte.is_escape) c.as_bytes-byte-items.result.now c.loop-byte.rest.now c.loop-byte.byte-index w.in-Some.others.now c.loop-byte-test.true kept (grind (arith, common_steps)) c.loop-byte.invariant in
          cc e)
      | else-not-is_escape w ↦
          (let escape : (eqb (get_or c.as_bytes-byte-items.result.now c.loop-byte.byte-index 0) 92 && not c.loop-byte.is_escape) ≡ true = grind (arith, common_steps) in
          let e = compare-escape _ (not c.loop-byte.is_escape) c.as_bytes-byte-items.result.now c.loop-byte.rest.now c.loop-byte.byte-index c.loop-byte-test.true escape c.loop-byte.invariant in
          cc e)
    ]

pub returns-in_default : goal.returns-in_default
returns-in_default c =
    compare-other _ (not c.loop-byte.is_escape) c.as_bytes-byte-items.result.now c.loop-byte.rest.now c.loop-byte.byte-index c.in-Some.first.now c.in-Some.others.now c.loop-byte-test.true
    (grind (arith, common_steps)) c.in-Some.ensures.cases.0 c.if-first-byte.false c.loop-byte.invariant

pub returns-in_default-2 : goal.returns-in_default-2
returns-in_default-2 c =
    compare-none _ (not c.loop-byte.is_escape) c.as_bytes-byte-items.result.now c.loop-byte.rest.now c.loop-byte.byte-index c.loop-byte-test.true
    (grind (arith, common_steps)) (search rules) c.loop-byte.invariant

pub returns : goal.returns
returns c =
    cc (compare-end _ (not c.loop-byte.is_escape) c.as_bytes-byte-items.result.now c.loop-byte.rest.now c.loop-byte.byte-index c.loop-byte-test.false c.loop-byte.invariant)
