use Rattle.std.proofs.Common.{◌≡◌, ◌-◌, ◌≤◌, length, take}
use Rattle.std.specs.List.{AllByRecursion}
use Rattle.tv_doc.proofs.lent_names.first_run.Given as goal

-- the pairs that were passed have the field
abbrev pub invariant-run : goal.invariant-run
invariant-run g l = record {
  some : 1 ≤ l.len;
  within : l.len ≤ length l.pairs;
  same : AllByRecursion (λ pair. pair.0.id ≡ l.first.id) (take l.len l.pairs);
}

abbrev pub decreases-run : goal.decreases-run
decreases-run g l = length l.pairs - l.len
