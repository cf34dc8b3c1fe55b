use Rattle.std.proofs.Common.{length}
use Rattle.uses.proofs.store.values_of_fields.Given as goal

-- how many bytes are left
abbrev pub decreases-loop-reader : goal.decreases-loop-reader
decreases-loop-reader l = length l.source.rest.now
