use Rattle.std.proofs.Common.{drop}
use Rattle.tv_store.proofs.RoundTrips.{CalledSoFar}
use Rattle.tv_store.proofs.round_trip.add_all.Given as goal

abbrev pub invariant-loop-field : goal.invariant-loop-field
invariant-loop-field l = CalledSoFar l.values (drop l.field-index l.values) l.fn.document l.document
