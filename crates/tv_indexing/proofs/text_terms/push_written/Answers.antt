use Rattle.std.proofs.Common.{drop}
use Rattle.tv_indexing.proofs.TextSteps.{err_then, ok_then, one_listed}
use Rattle.tv_indexing.proofs.Visiting.{none_appended}
use Rattle.tv_value.specs.Lent.{leaf_of}
use Rattle.tv_indexing.proofs.text_terms.push_written.Goals as goal

pub returns-in-Some-clause-made : goal.returns-in-Some-clause-made
returns-in-Some-clause-made c =
    rw c.in-Some.is (ok_then c.visit_json_leaf.result (one_listed c.args.field (drop 1 c.args.buffer.now) (leaf_of c.in-Some.leaf) c.args.terms.now c.visit_json_leaf.new.visitor) c.visit_json_leaf.ensures.made)

pub returns-in-Some-clause-unchanged : goal.returns-in-Some-clause-unchanged
returns-in-Some-clause-unchanged c =
    err_then c.visit_json_leaf.result (none_appended c.args.terms.now c.visit_json_leaf.new.visitor) c.visit_json_leaf.ensures.untaken
