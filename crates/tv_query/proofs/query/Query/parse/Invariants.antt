use Rattle.std.proofs.Common.{length, ◌≤◌}
use denote.Text.{Utf8}
use denote.Shadow.{shadow}
use Rattle.tv_query.proofs.Reading.{ReadSoFar}
use Rattle.tv_query.proofs.query.Query.parse.Given as goal

abbrev pub invariant-loop-rest : goal.invariant-loop-rest
invariant-loop-rest l = shadow (Utf8 l.rest) × ReadSoFar l.schema l.text l.parser l.rest × (length l.rest ≤ length l.text)

abbrev pub decreases-loop-rest : goal.decreases-loop-rest
decreases-loop-rest l = length l.rest
