use Rattle.std.proofs.Common.{ap, length, ◌∙◌, arith, rules}
use Rattle.tv_doc.proofs.Pairs.{value_first, other_first}
use Rattle.tv_doc.proofs.field_values.GetAllIterIterator.next.Goals as goal

pub returns-then-eq-clause-steps : goal.returns-then-eq-clause-steps
returns-then-eq-clause-steps c =
    c.loop-other.invariant.left ∙ value_first c.args.self.now.field.id c.in-Some.other.id _ _ _ c.in-Some.ensures.steps (search rules)

pub loop-other-preserved : goal.loop-other-preserved
loop-other-preserved c = record {
  goes = (tt, tt);
  left = c.loop-other.invariant.left ∙ other_first c.args.self.now.field.id c.in-Some.other.id _ _ _ c.in-Some.ensures.steps (search rules);
  fewer = omega (arith, c.loop-other.invariant.fewer, ap length c.in-Some.ensures.steps);
}
