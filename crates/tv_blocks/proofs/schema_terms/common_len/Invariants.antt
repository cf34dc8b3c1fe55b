use Rattle.std.proofs.Common.{◌-◌, ◌≡◌, ◌+◌, ◌≤◌, drop}
use Rattle.tv_blocks.specs.SchemaTerms.{common_len}
use Rattle.tv_blocks.proofs.schema_terms.common_len.Given as goal

abbrev pub invariant-loop-len : goal.invariant-loop-len
invariant-loop-len l = record {
  within : l.len ≤ l.both;
  so_far : common_len l.before l.term ≡ l.len + common_len (drop l.len l.before) (drop l.len l.term);
}

abbrev pub decreases-loop-len : goal.decreases-loop-len
decreases-loop-len l = l.both - l.len

abbrev pub invariant-loop-len-2 : goal.invariant-loop-len-2
invariant-loop-len-2 l = record {
  within : l.len ≤ l.both;
  so_far : common_len l.before l.term ≡ l.len + common_len (drop l.len l.before) (drop l.len l.term);
}

abbrev pub decreases-loop-len-2 : goal.decreases-loop-len-2
decreases-loop-len-2 l = l.both - l.len
