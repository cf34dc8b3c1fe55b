use Rattle.std.proofs.Common.{◌≡◌, ◌++◌, [], take, drop, sym, ap, ◌∙◌, arith, take_at, length-take-le, length-append, length-drop}
use Rattle.std.specs.Prelude.{unwrap_or}
use Rattle.std.specs.Io.Buffered.{reader_buffer, reader_remaining}
use Rattle.tv_io.proofs.Buffering.{some_shown, taken_off, still_buffered, left_behind}
use Rattle.tv_io.proofs.Remaining.{still_known, failures_counted}
use Rattle.tv_io.proofs.buffered_source.BufferedSourceByteSource.read.Goals as goal

pub returns-then-is_empty-clause-is_known : goal.returns-then-is_empty-clause-is_known
returns-then-is_empty-clause-is_known g c = still_known c.read.result c.read.new.buf _ _ c.read.ensures.bytes

pub returns-then-is_empty-clause-failures : goal.returns-then-is_empty-clause-failures
returns-then-is_empty-clause-failures g c = failures_counted _ _ _ _ c.count.ensures

pub returns-clause-is_known : goal.returns-clause-is_known
returns-clause-is_known g c = λ known.
    let e = c.consume.ensures in
    still_buffered g.R.Read.remaining c.args.self.now.inner c.consume.new.self _ (taken_off c.args.self.now.inner _ c.min-count.result e.buffer e.inner e.capacity) known

pub returns-clause-bytes : goal.returns-clause-bytes
returns-clause-bytes g c = λ known.
    let e = c.consume.ensures in
    let n = c.min-count.result in
    let buffer = reader_buffer c.args.self.now.inner in
    let behind = drop n c.args.buf.now in
    let all = left_behind g.R.Read.remaining c.args.self.now.inner c.consume.new.self _ (taken_off c.args.self.now.inner _ n e.buffer e.inner e.capacity) known in
    let copied : c.copy_from_slice.new.self ≡ take n buffer = c.copy_from_slice.ensures.after ∙ ap (take n) c.buffer-buffered.ensures in
    let given : take n (c.copy_from_slice.new.self ++ behind) ≡ take n buffer = take_at c.copy_from_slice.new.self behind n (omega (arith, c.min-count.ensures, c.copy_from_slice.ensures.len, length-take-le n c.args.buf.now (omega (arith, c.min-count.ensures)))) ∙ copied in
    (all ∙ ap (λ l. l ++ unwrap_or (reader_remaining g.R.Read.remaining c.consume.new.self) []) (sym given), λ none room. absurd (omega (arith, none, c.min-count.ensures, some_shown _ c.if-is_empty.ensures, room, c.copy_from_slice.ensures.len, length-take-le n c.args.buf.now (omega (arith, c.min-count.ensures)), length-append c.copy_from_slice.new.self behind, length-drop n c.args.buf.now)))
