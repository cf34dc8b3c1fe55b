use Rattle.std.proofs.Common.{◌≡◌, ◌++◌}
use Rattle.tv_doc.proofs.lent_names.by_name.Given as goal

-- the entries that are left follow those that are listed
abbrev pub invariant-loop-entry : goal.invariant-loop-entry
invariant-loop-entry g l = l.named.items ++ l.entry-iterator ≡ l.initial.entry-iterator
