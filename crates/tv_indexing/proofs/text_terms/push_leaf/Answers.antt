use Rattle.tv_indexing.proofs.TextSteps.{err_then, ok_then}
use Rattle.tv_indexing.proofs.Visiting.{all_appended, none_appended}
use Rattle.tv_indexing.specs.DocumentTerms.{plain_terms}
use Rattle.tv_indexing.specs.LeafTerms.{leaf_value}
use Rattle.tv_value.specs.Lent.{leaf_of}
use Rattle.tv_indexing.proofs.text_terms.push_leaf.Goals as goal

pub returns-clause-made : goal.returns-clause-made
returns-clause-made c =
    ok_then c.visit_leaf.result (all_appended c.args.terms.now c.visit_leaf.new.visitor (plain_terms c.args.field c.args.wanted (leaf_value (leaf_of c.args.leaf)))) c.visit_leaf.ensures.made

pub returns-clause-unchanged : goal.returns-clause-unchanged
returns-clause-unchanged c =
    err_then c.visit_leaf.result (none_appended c.args.terms.now c.visit_leaf.new.visitor) c.visit_leaf.ensures.untaken
