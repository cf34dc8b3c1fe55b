use Rattle.tv_io.proofs.Buffering.{taken_off, still_buffered}
use Rattle.tv_io.proofs.buffered_source.BufferedSourceByteSource.next_byte.Goals as goal

pub returns-in-Some-clause-is_known : goal.returns-in-Some-clause-is_known
returns-in-Some-clause-is_known g c = λ known.
    let e = c.consume.ensures in
    still_buffered g.R.Read.remaining c.args.self.now.inner c.consume.new.self _ (taken_off c.args.self.now.inner _ 1 e.buffer e.inner e.capacity) known
