use Rattle.std.proofs.Common.{◌≡◌, length}
use Rattle.tv_schema.specs.Path.{parted_at, last_given}
use Rattle.tv_schema.proofs.path.find.Given as goal

-- at the places after nothing is given
abbrev pub invariant-loop-place : goal.invariant-loop-place
invariant-loop-place l =
    last_given (parted_at l.table l.path) l.place ≡ last_given (parted_at l.table l.path) (length l.path)
