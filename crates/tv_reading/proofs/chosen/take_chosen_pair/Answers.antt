use Rattle.std.proofs.Common.{subst}
use Rattle.tv_builder.specs.HeldPairs.{document_of}
use Rattle.tv_reader.specs.Version.{version_of}
use Rattle.tv_reader.proofs.Finding.{finds_as}
use Rattle.tv_reading.specs.ChosenPair.{AddsIf, FindsPair, FindsNoPair}
use Rattle.tv_reading.proofs.ChosenPairs.{none_before, none_before_full}
use Rattle.tv_reading.proofs.chosen.take_chosen_pair.Goals as goal

pub returns-then-take_buffered_pair-clause-finds : goal.returns-then-take_buffered_pair-clause-finds
returns-then-take_buffered_pair-clause-finds g c =
    let v = version_of c.args.version in
    let fields = c.args.fields.now in
    let pairs = c.take_buffered_pair.new.document in
    finds_as pairs (FindsPair v fields (document_of c.args.document)) (FindsNoPair v (document_of c.args.document))
    (λ a q. λ stands. subst (AddsIf v fields c.args.document pairs a) c.if-take_buffered_pair.true q) c.take_buffered_pair.ensures.finds

pub returns-clause-finds : goal.returns-clause-finds
returns-clause-finds g c =
    none_before (version_of c.args.version) c.args.fields.now c.args.document c.take_buffered_pair.new.document c.take_buffered_pair.result c.take_pair_by_parts.result c.if-take_buffered_pair.false c.take_buffered_pair.ensures.finds c.take_pair_by_parts.ensures.finds

pub returns-clause-no_room : goal.returns-clause-no_room
returns-clause-no_room g c = λ told full stands.
    none_before_full (version_of c.args.version) c.args.fields.now c.args.document c.take_buffered_pair.new.document c.take_buffered_pair.result c.if-take_buffered_pair.false c.take_buffered_pair.ensures.finds told stands
    (c.take_pair_by_parts.ensures.no_room (c.take_buffered_pair.ensures.finds.stays_known told) full)
