use Rattle.std.proofs.Common.{ap, subst, sym, ◌∙◌}
use Rattle.tv_doc.specs.Document.{document_of}
use Rattle.tv_reader.specs.Version.{version_of}
use Rattle.tv_reader.specs.declared.error.DeserializeError.TheVariants.{AlreadyFailed}
use Rattle.tv_store.specs.Blocks.{as_read_within}
use Rattle.tv_store.specs.Limits.{FitsLimits, IsLimitedError, ReadsNextWithin, within}
use Rattle.tv_store.specs.declared.limits.LimitedReadError.TheVariants.{Read}
use Rattle.tv_store.proofs.BlockSteps.{leaves_none, says_more}
use Rattle.tv_store.proofs.BlocksWithin.{reads_seen, said_comes, said_counts, said_errors, said_parts, said_stops, says_next, some_may, steps_seen, steps_within, stops_failed, stops_seen}
use Rattle.tv_store.proofs.Resuming.{reads_on}
use Rattle.tv_store.proofs.WithinLimits.{reads_within, stops_within}
use Rattle.tv_store.proofs.block.BlockReader.advance_within.Goals as goal

pub returns-clause-steps : goal.returns-clause-steps
returns-clause-steps g c =
    let read = c.read_parts_in_place-read in
    steps_within g.S.ByteSource (version_of c.args.self.now.version) c.args.limits c.if-self.false c.finish-2.ensures (some_may c.takes_none.result _ c.takes_none.ensures c.if-takes_none.false) read.ensures.comes read.ensures.counted

pub returns-clause-fits : goal.returns-clause-fits
returns-clause-fits g c = λ is. subst (FitsLimits c.args.limits) (sym c.finish-2.ensures.document) (says_more c.finish-2.ensures is c.read_parts_in_place-read.ensures.fits)

pub returns-clause-none : goal.returns-clause-none
returns-clause-none g c = leaves_none c.finish-2.ensures c.args.self.now c.read_parts_in_place-read.ensures.none

pub returns-clause-reads : goal.returns-clause-reads
returns-clause-reads g c =
    let v = version_of c.args.self.now.version in
    let read = c.read_parts_in_place-read in
    let next = c.finish-2 in
    subst (λ d. ReadsNextWithin c.args.limits g.S.ByteSource c.args.source.now read.new.source c.args.self.now (record next.new.self { document = d }) next.result) (sym next.ensures.document)
    (reads_on (within c.args.limits) (Read AlreadyFailed) c.args.self.now.failed
    (reads_within g.S.ByteSource v c.args.limits (as_read_within next.result read.new.document) (λ told. said_comes next.ensures v c.args.limits _ _ (read.ensures.comes told)) (said_errors next.ensures (IsLimitedError c.args.limits) read.ensures.errors)
    (said_counts next.ensures _ _ read.ensures.failures) read.ensures.stays_known))

pub returns-clause-stops : goal.returns-clause-stops
returns-clause-stops g c =
    let v = version_of c.args.self.now.version in
    let read = c.read_parts_in_place-read in
    said_stops g.S.ByteSource v c.args.limits c.finish-2.result read.new.document (some_may c.takes_none.result _ c.takes_none.ensures c.if-takes_none.false)
    (stops_within g.S.ByteSource v c.args.limits (as_read_within c.finish-2.result read.new.document) (λ told. said_comes c.finish-2.ensures v c.args.limits _ _ (read.ensures.comes told))
    (λ told. said_parts c.finish-2.ensures v c.args.limits _ _ (read.ensures.parts told)))

pub returns-then-takes_none-clause-steps : goal.returns-then-takes_none-clause-steps
returns-then-takes_none-clause-steps g c = steps_seen g.S.ByteSource c.if-self.false c.finish.ensures c.see_next-seen.ensures.sees c.see_next-seen.ensures.counted

pub returns-then-takes_none-clause-none : goal.returns-then-takes_none-clause-none
returns-then-takes_none-clause-none g c = λ live other. ap document_of c.finish.ensures.document ∙ c.new.ensures.document

pub returns-then-takes_none-clause-reads : goal.returns-then-takes_none-clause-reads
returns-then-takes_none-clause-reads g c =
    let seen = c.see_next-seen in
    reads_on (within c.args.limits) (Read AlreadyFailed) c.args.self.now.failed
    (reads_seen g.S.ByteSource (version_of c.args.self.now.version) c.args.limits (c.takes_none.ensures.0 c.if-takes_none.true) c.finish.ensures seen.ensures.sees (λ told. let t = seen.ensures.counted told in (t.prefix, t.joined)) seen.ensures.failures seen.ensures.stays_known)

pub returns-then-takes_none-clause-stops : goal.returns-then-takes_none-clause-stops
returns-then-takes_none-clause-stops g c =
    let next = c.finish in
    stops_seen g.S.ByteSource (version_of c.args.self.now.version) c.args.limits (c.takes_none.ensures.0 c.if-takes_none.true) next.result (says_next _ _ _ next.ensures c.see_next-seen.ensures.sees)

pub returns-then-self-clause-stops : goal.returns-then-self-clause-stops
returns-then-self-clause-stops g c = stops_failed g.S.ByteSource (version_of c.args.self.now.version) c.args.limits c.args.source.now AlreadyFailed
