use Rattle.std.proofs.Common.{◌≡◌, ◌≤◌, ◌&&◌}
use Rattle.std.specs.Prelude.{IfSome}
use Rattle.tv_format.specs.Size.{size, elements_size, entries_size}
use Rattle.tv_format.specs.Tree.{elements, entries}
use Rattle.tv_heap.specs.Same.{pair_eq, left_eq, Smaller}
use Rattle.tv_heap.specs.Value.{tree_of}
use Rattle.tv_value.specs.Same.{elements_eq, entries_eq}
use Rattle.tv_heap.proofs.same.+same.Given as goal

-- each child is smaller
abbrev pub decreases-same_pair : goal.decreases-same_pair
decreases-same_pair l = size (tree_of l.pair.one)

abbrev pub decreases-same_items : goal.decreases-same_items
decreases-same_items l = elements_size (elements l.items.held.0)

abbrev pub decreases-same_members : goal.decreases-same_members
decreases-same_members l = entries_size (entries l.members.held.0)

-- the answer is that of the pair that is left
abbrev pub invariant-same_pair-loop-items : goal.invariant-same_pair-loop-items
invariant-same_pair-loop-items l = record {
  same : pair_eq l.left ≡ pair_eq l.fn.pair;
  smaller : size (tree_of l.left.one) ≤ size (tree_of l.fn.pair.one);
}

abbrev pub decreases-same_pair-loop-items : goal.decreases-same_pair-loop-items
decreases-same_pair-loop-items l = size (tree_of l.left.one)

-- the answer is that of the heaviest pair and of the children that are left
abbrev pub invariant-same_items-loop-one : goal.invariant-same_items-loop-one
invariant-same_items-loop-one l =
    let rest = elements l.one-iterator.held.0 in
    let whole = elements l.fn.items.held.0 in
    record {
      same : (left_eq l.heaviest && elements_eq rest (elements l.others.held.0)) ≡ elements_eq whole (elements l.fn.others.held.0);
      heaviest : IfSome l.heaviest (Smaller (elements_size whole));
      smaller : elements_size rest ≤ elements_size whole;
    }

abbrev pub invariant-same_members-loop-key : goal.invariant-same_members-loop-key
invariant-same_members-loop-key l =
    let rest = entries l.key-iterator.held.0 in
    let whole = entries l.fn.members.held.0 in
    record {
      same : (left_eq l.heaviest && entries_eq rest (entries l.others.held.0)) ≡ entries_eq whole (entries l.fn.others.held.0);
      heaviest : IfSome l.heaviest (Smaller (entries_size whole));
      smaller : entries_size rest ≤ entries_size whole;
    }
