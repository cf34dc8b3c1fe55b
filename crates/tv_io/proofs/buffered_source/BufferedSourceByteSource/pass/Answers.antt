use Rattle.std.proofs.Common.{length, take, ap, arith, length-take-le}
use Rattle.std.specs.Io.Buffered.{reader_buffer}
use Rattle.tv_io.proofs.Buffering.{taken_off, still_buffered, left_behind}
use Rattle.tv_io.proofs.buffered_source.BufferedSourceByteSource.pass.Goals as goal

pub returns-clause-bytes : goal.returns-clause-bytes
returns-clause-bytes g c = λ known.
    let inner = c.args.self.now.inner in
    let e = c.consume.ensures in
    let len = c.args.len in
    (take len (reader_buffer inner), left_behind g.R.Read.remaining inner c.consume.new.self _ (taken_off inner _ len e.buffer e.inner e.capacity) known, length-take-le len (reader_buffer inner) (omega (arith, c.if-len-buffer.false, ap length c.buffer.ensures)))

pub returns-clause-is_known : goal.returns-clause-is_known
returns-clause-is_known g c = λ known.
    let inner = c.args.self.now.inner in
    let e = c.consume.ensures in
    still_buffered g.R.Read.remaining inner c.consume.new.self _ (taken_off inner _ c.args.len e.buffer e.inner e.capacity) known
