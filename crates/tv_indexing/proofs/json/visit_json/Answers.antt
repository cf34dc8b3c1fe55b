use Rattle.std.proofs.Common.{[], rules}
use Rattle.tv_heap.specs.Value.{tree_of}
use Rattle.tv_indexing.proofs.Walks.{terms_at-keys, terms_at-top}
use Rattle.tv_indexing.proofs.json.visit_json.Goals as goal

pub returns-in_err-begin-clause-refused : goal.returns-in_err-begin-clause-refused
returns-in_err-begin-clause-refused g c = rw (terms_at-keys c.args.at.field c.args.at.expand_dots [] (tree_of c.args.value)) (search rules)

pub returns-in-None-clause-made : goal.returns-in-None-clause-made
returns-in-None-clause-made g c =
    rw (terms_at-top c.args.at.field c.args.at.expand_dots _ (tree_of c.args.value) c.clear.ensures) (rw c.in-None.is at c.in_ok-begin.ensures.begun)

pub returns-in-Some-clause-made : goal.returns-in-Some-clause-made
returns-in-Some-clause-made g c =
    let begun = rw c.in-Some.is at c.in_ok-begin.ensures.begun in
    rw (terms_at-top c.args.at.field c.args.at.expand_dots _ (tree_of c.args.value) c.clear.ensures, begun.1, ← begun.0) c.visit_children.ensures.made

pub returns-in-Some-clause-refused : goal.returns-in-Some-clause-refused
returns-in-Some-clause-refused g c =
    let begun = rw c.in-Some.is at c.in_ok-begin.ensures.begun in
    rw (terms_at-top c.args.at.field c.args.at.expand_dots _ (tree_of c.args.value) c.clear.ensures, begun.1) c.visit_children.ensures.refused
