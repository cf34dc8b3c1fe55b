use Rattle.tv_format.specs.WriteVersion.{written_version}
use Rattle.tv_reading.proofs.ChosenRuns.{none_added, one_more, no_more}
use Rattle.tv_reading.proofs.buffered.add_chosen.Goals as goal

pub loop-count-init : goal.loop-count-init
loop-count-init c = none_added (written_version c.args.version) c.args.wanted.now.fields.now c.args.document.now c.args.bytes.now

pub loop-count-preserved : goal.loop-count-preserved
loop-count-preserved c =
    one_more (written_version c.args.version) c.args.wanted.now.fields.now c.args.document.now c.loop-count.document c.add_chosen_pair.new.document c.args.bytes.now c.loop-count.rest.now c.in-Some.behind.now c.loop-count.count c.loop-count.invariant c.in-Some.ensures.added

pub returns-in_default-clause-added : goal.returns-in_default-clause-added
returns-in_default-clause-added c =
    no_more (written_version c.args.version) c.args.wanted.now.fields.now c.args.document.now c.loop-count.document c.add_chosen_pair.new.document c.args.bytes.now c.loop-count.rest.now c.loop-count.count c.loop-count.invariant c.in_default.ensures.none
