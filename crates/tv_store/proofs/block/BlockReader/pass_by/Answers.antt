use Rattle.std.proofs.Common.{ap}
use Rattle.tv_reader.specs.declared.error.DeserializeError.TheVariants.{AlreadyFailed}
use Rattle.tv_store.specs.BlockSteps.{refusal_of}
use Rattle.tv_store.specs.declared.limits.LimitedReadError.TheVariants.{Read}
use Rattle.tv_store.proofs.Projections.{reads_projected, steps_told}
use Rattle.tv_store.proofs.block.BlockReader.pass_by.Goals as goal

pub returns-clause-steps : goal.returns-clause-steps
returns-clause-steps g c =
    let read = c.pass_next-read in
    steps_told (refusal_of read.new.self) read.result c.place_refusal.result c.place_refusal.ensures (λ e says. says) (λ _ same. ap (λ r. refusal_of r (Read AlreadyFailed)) same) read.ensures.steps

pub returns-clause-reads : goal.returns-clause-reads
returns-clause-reads g c = λ live. reads_projected c.pass_next-read.result c.place_refusal.result c.place_refusal.ensures (c.pass_next-read.ensures.reads live)
