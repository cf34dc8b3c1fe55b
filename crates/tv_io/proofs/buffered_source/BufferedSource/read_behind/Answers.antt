use Rattle.std.proofs.Common.{◌≡◌, arith, take, length, ap, ◌∙◌, length-take-le}
use Rattle.tv_base.proofs.Pieces.{appended}
use Rattle.tv_io.proofs.buffered_source.BufferedSource.read_behind.Goals as goal

pub returns-in-Ok-clause-bytes : goal.returns-in-Ok-clause-bytes
returns-in-Ok-clause-bytes g c = λ told.
    let n = c.in-Ok.count in
    let room : length c.read.new.buf ≡ c.args.most =
    omega (arith, c.read.auto.buf, c.deref_mut.ensures.len, c.in_ok-resize.ensures.len, c.len-filled.ensures, ap length c.deref_mut.ensures.value, c.resize.new.self.ok.0) in
    let gave = c.in-Ok.ensures.bytes told in
    record {
      moved = take n c.read.new.buf;
      joined = gave.0;
      behind = c.truncate.ensures.items ∙ appended c.len-filled.result n c.args.most _ c.args.bytes.now.items c.read.new.buf _ _ _ c.deref_mut.result.now (omega (arith, c.len-filled.ensures, c.args.bytes.now.ok.0)) (c.deref_mut.ensures.value ∙ c.in_ok-resize.ensures.items) c.in-Ok.ensures.bound (omega (arith, room, c.in_ok-resize.ensures.len, c.in-Ok.ensures.bound));
      count = length-take-le n c.read.new.buf c.in-Ok.ensures.bound;
      end = λ none wanted. gave.1 none (omega (arith, room));
    }
