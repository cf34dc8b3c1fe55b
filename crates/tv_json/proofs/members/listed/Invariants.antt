use Rattle.std.proofs.Common.{◌≡◌, ◌++◌}
use Rattle.tv_json.proofs.members.listed.Given as goal

-- the members that are left follow those that are listed
abbrev pub invariant-loop-member : goal.invariant-loop-member
invariant-loop-member l = l.list.items ++ l.member-iterator ≡ l.initial.member-iterator
