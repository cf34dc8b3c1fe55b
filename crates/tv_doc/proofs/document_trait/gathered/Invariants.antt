use Rattle.std.proofs.Common.{◌≡◌, ◌++◌, map}
use Rattle.tv_doc.specs.FieldValues.{pair_seen}
use Rattle.tv_doc.proofs.document_trait.gathered.Given as goal

-- those that were gathered, and those that are left
abbrev pub invariant-loop-pair : goal.invariant-loop-pair
invariant-loop-pair g l = map (pair_seen g.D.Value.Value.tree) l.pairs.items ++ g.D.Document.pairs_rest l.pair-iterator ≡ g.D.Document.pairs l.fn.document
