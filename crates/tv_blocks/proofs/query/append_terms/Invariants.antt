use Rattle.std.proofs.Common.{◌≡◌, ◌++◌}
use Rattle.std.specs.List.{flat_map}
use Rattle.tv_blocks.specs.Query.{measured_term}
use Rattle.tv_blocks.proofs.query.append_terms.Given as goal

abbrev pub invariant-loop-term : goal.invariant-loop-term
invariant-loop-term l = record {
  can_next : (goal.iterator-loop-term).can_next l.term-iterator;
  is_finite : (goal.iterator-loop-term).is_finite l.term-iterator;
  so_far : l.content.items ++ flat_map measured_term l.term-iterator ≡ l.initial.content.items ++ flat_map measured_term l.terms;
}
