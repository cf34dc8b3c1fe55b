use Rattle.std.proofs.Common.{◌≡◌, length, take, arith, length-take-le}
use Rattle.std.proofs.lemmas.Simd.{take_more_put_chunk, length-put_chunk}
use Rattle.tv_base.proofs.fixed_copy.copy_first.Goals as goal

pub returns : goal.returns
returns g c =
    let front = take g.row.N c.args.part.now in
    let long : length front ≡ g.row.N = length-take-le g.row.N c.args.part.now c.requires.0 in
    record {
      filled = take_more_put_chunk c.args.at c.args.to.now front _ (omega arith) c.requires.1;
      ends = omega arith;
      same_len = length-put_chunk c.args.at c.args.to.now front;
    }
