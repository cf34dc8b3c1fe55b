use Rattle.std.proofs.Common.{Ok}
use Rattle.tv_reader.specs.Finds.{Finds, Nothing}
use Rattle.tv_reader.specs.Version.{version_of}
use Rattle.tv_reading.proofs.ChosenDocuments.{TakenChosen}
use Rattle.tv_reading.proofs.chosen.take_chosen_into.Given as goal

-- the chosen ones are kept of as many pairs as were taken
abbrev pub invariant-loop : goal.invariant-loop
invariant-loop g l =
    let source = g.S.ByteSource in
    Finds source l.fn.source l.fn.count l.source l.count (Ok l.document) (TakenChosen (version_of l.version) l.fields l.announced l.counter) Nothing
