use Rattle.tv_reading.proofs.Passing.{finds_first, bytes_ended}
use Rattle.tv_reading.proofs.parts.skip_bytes.Goals as goal

pub returns : goal.returns
returns g c = record { finds = finds_first (bytes_ended c.args.len) (λ a r. r) c.if-pass_buffered.ensures.finds c.skip_by_reads.ensures.finds }
