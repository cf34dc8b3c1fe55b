use Rattle.std.proofs.Common.{◌≡◌, ◌≤◌, length}
use Rattle.tv_doc.specs.FieldValues.{pairs_left, values_of, values_left}
use Rattle.tv_doc.proofs.field_values.GetAllIterIterator.next.Given as goal

-- the pairs that are passed over are those of other fields
abbrev pub invariant-loop-other : goal.invariant-loop-other
invariant-loop-other l = record {
  goes : (goal.iterator-loop-other).can_next l.pairs × (goal.iterator-loop-other).is_finite l.pairs;
  left : values_left l.fn.self ≡ values_of l.fn.self.field.id (pairs_left l.pairs);
  fewer : length (pairs_left l.pairs) ≤ length (pairs_left l.fn.self.pairs);
}
