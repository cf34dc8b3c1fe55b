use Rattle.std.proofs.Common.{◌++◌, length, take, ap, ◌∙◌, arith, length-take-le}
use Rattle.std.specs.Io.Buffered.{reader_buffer}
use Rattle.tv_io.proofs.Buffering.{some_shown, taken_off, still_buffered, left_behind}
use Rattle.tv_io.proofs.buffered_source.BufferedSourceByteSource.append.Goals as goal

pub returns-clause-is_known : goal.returns-clause-is_known
returns-clause-is_known g c = λ known.
    let e = c.consume.ensures in
    still_buffered g.R.Read.remaining c.args.self.now.inner c.consume.new.self _ (taken_off c.args.self.now.inner _ c.min-count.result e.buffer e.inner e.capacity) known

pub returns-clause-bytes : goal.returns-clause-bytes
returns-clause-bytes g c = λ known.
    let e = c.consume.ensures in
    let n = c.min-count.result in
    let buffer = reader_buffer c.args.self.now.inner in
    record {
      moved = take n buffer;
      joined = left_behind g.R.Read.remaining c.args.self.now.inner c.consume.new.self _ (taken_off c.args.self.now.inner _ n e.buffer e.inner e.capacity) known;
      behind = c.in_ok-extend_from_slice.ensures.items ∙ ap (λ l. c.args.bytes.now.items ++ take n l) c.buffer-buffered.ensures;
      count = length-take-le n buffer (omega (arith, c.min-count.ensures, ap length c.buffer-buffered.ensures));
      end = λ none wanted. absurd (omega (arith, c.min-count.ensures, some_shown _ c.if-is_empty.ensures));
    }
