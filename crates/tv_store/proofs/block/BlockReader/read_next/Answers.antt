use Rattle.std.proofs.Common.{◌≡◌, refl, sym, ap, ◌∙◌, subst}
use Rattle.tv_doc.specs.Document.{document_of}
use Rattle.tv_reader.specs.Version.{version_of}
use Rattle.tv_reader.specs.declared.error.DeserializeError.TheVariants.{AlreadyFailed}
use Rattle.tv_store.specs.Limits.{within}
use Rattle.tv_store.specs.Projections.{ReadsNextOf, kept}
use Rattle.tv_store.specs.Reading.{reading}
use Rattle.tv_store.specs.declared.limits.LimitedReadError.TheVariants.{Read}
use Rattle.tv_store.specs.declared.projection.Projection.{Projection}
use Rattle.tv_store.specs.declared.projection.Projection.TheVariants.{All}
use Rattle.tv_store.proofs.Projections.{leaves_told, next_read, next_within, one_chosen, one_whole, one_within, steps_told}
use Rattle.tv_store.proofs.Resuming.{reads_live}
use Rattle.tv_store.proofs.block.BlockReader.read_next.Goals as goal

pub returns-in-Fields-clause-steps : goal.returns-in-Fields-clause-steps
returns-in-Fields-clause-steps g c = steps_told Read c.advance_fields.result c.tell.result c.tell.ensures (λ e says. says) (λ _ _. refl) c.advance_fields.ensures.steps

pub returns-in-Fields-clause-none : goal.returns-in-Fields-clause-none
returns-in-Fields-clause-none g c = leaves_told Read c.args.self.now c.advance_fields.new.self c.advance_fields.result c.tell.result c.tell.ensures c.advance_fields.ensures.none

pub returns-in-Fields-clause-reads : goal.returns-in-Fields-clause-reads
returns-in-Fields-clause-reads g c = λ live.
    let source = g.S.ByteSource in
    let read = c.advance_fields in
    let steps = read.ensures.steps in
    let document = read.new.self.document in
    let reads = reads_live reading AlreadyFailed live (rw c.as_slice.ensures.value at read.ensures.reads) in
    subst (λ (p : Projection). ReadsNextOf p (λ d. document_of document ≡ kept p d) source c.args.source.now read.new.source c.args.self.now c.tell.result) (sym c.in-Fields.is)
    (next_read read.result c.tell.result document c.tell.ensures (λ known. one_chosen source (version_of c.args.self.now.version) read.result document c.in-Fields.fields reads (steps.end live) (steps.ended live) known) refl reads.taken reads.failures reads.stays_known)

pub returns-then-is_unlimited-clause-steps : goal.returns-then-is_unlimited-clause-steps
returns-then-is_unlimited-clause-steps g c = steps_told Read c.advance.result c.tell-then-is_unlimited.result c.tell-then-is_unlimited.ensures (λ e says. says) (λ _ _. refl) c.advance.ensures.steps

pub returns-then-is_unlimited-clause-none : goal.returns-then-is_unlimited-clause-none
returns-then-is_unlimited-clause-none g c = leaves_told Read c.args.self.now c.advance.new.self c.advance.result c.tell-then-is_unlimited.result c.tell-then-is_unlimited.ensures c.advance.ensures.none

pub returns-then-is_unlimited-clause-reads : goal.returns-then-is_unlimited-clause-reads
returns-then-is_unlimited-clause-reads g c = λ live.
    let source = g.S.ByteSource in
    let read = c.advance in
    let steps = read.ensures.steps in
    let document = read.new.self.document in
    let said = c.tell-then-is_unlimited in
    let reads = reads_live reading AlreadyFailed live read.ensures.reads in
    subst (λ (p : Projection). ReadsNextOf p (λ d. document_of document ≡ kept p d) source c.args.source.now read.new.source c.args.self.now said.result) (sym (c.in-All.is ∙ ap All (c.is_unlimited.ensures.0 c.if-is_unlimited.true)))
    (next_read read.result said.result document said.ensures (λ known. one_whole source (version_of c.args.self.now.version) read.result document reads (steps.end live) (steps.ended live) known) refl reads.taken reads.failures reads.stays_known)

pub returns-else-is_unlimited-clause-reads : goal.returns-else-is_unlimited-clause-reads
returns-else-is_unlimited-clause-reads g c = λ live.
    let source = g.S.ByteSource in
    let read = c.advance_within in
    let steps = read.ensures.steps in
    let document = read.new.self.document in
    let reads = reads_live (within c.in-All.limits) (Read AlreadyFailed) live read.ensures.reads in
    subst (λ (p : Projection). ReadsNextOf p (λ d. document_of document ≡ kept p d) source c.args.source.now read.new.source c.args.self.now read.result) (sym c.in-All.is)
    (next_within read.result document
    (λ known. one_within source (version_of c.args.self.now.version) c.in-All.limits read.result document reads read.ensures.stops read.ensures.fits (steps.end live) (steps.ended live) known) read.ensures.stops.most reads.failures reads.stays_known)
