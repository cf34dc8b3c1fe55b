use Rattle.std.proofs.Common.{refl, inl, inr}
use Rattle.tv_lines.proofs.Merging.{at_most_itself, not_after, not_greater}
use Rattle.tv_lines.proofs.term_runs.lesser.Goals as goal

pub returns-in_default-clause-at_most : goal.returns-in_default-clause-at_most
returns-in_default-clause-at_most c = at_most_itself c.args.term.now c.args.term.now refl

pub returns-in-Greater-clause-lesser : goal.returns-in-Greater-clause-lesser
returns-in-Greater-clause-lesser c = rw c.in-Some.is (inr refl, not_after c.in-Some.other.now c.args.term.now c.in-Greater.ensures)

pub returns-in-Greater-clause-at_most : goal.returns-in-Greater-clause-at_most
returns-in-Greater-clause-at_most c = at_most_itself c.args.term.now c.args.term.now refl

pub returns-in_default-cmp : goal.returns-in_default-cmp
returns-in_default-cmp c = record {
  lesser = rw c.in-Some.is (inl refl, at_most_itself c.in-Some.other.now c.in-Some.other.now refl);
  at_most = not_greater c.in-Some.other.now c.args.term.now c.cmp.result c.cmp.ensures c.in_default-cmp.not-Greater;
}
