use Rattle.std.proofs.Common.{take, map}
use Rattle.tantivy_schema.specs.Tree.{elements}
use Rattle.tantivy_schema.specs.Owned.{owned_tree}
use Rattle.embedding.specs.Figures.{AreFigures}
use Rattle.embedding.proofs.figures.+figures.Given as goal

abbrev pub invariant-all_figures-loop-item : goal.invariant-all_figures-loop-item
invariant-all_figures-loop-item l = AreFigures (elements (map owned_tree (take l.item-index l.item-items))) l.made.items
