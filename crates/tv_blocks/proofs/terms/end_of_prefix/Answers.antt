use Rattle.std.proofs.Common.{sym}
use Rattle.tv_blocks.specs.Terms.{IsEnd, IsEndRefusal}
use Rattle.tv_blocks.proofs.Filling.{fills_with}
use Rattle.tv_blocks.proofs.terms.end_of_prefix.Goals as goal

pub returns-in-Some : goal.returns-in-Some
returns-in-Some c =
    fills_with (IsEnd c.args.prefix.now) (IsEndRefusal c.args.prefix.now) c.as_slice.result.now c.args.end.now c.put_whole.new.buffer c.put_whole.result
    (c.in-Some.bytes, sym c.as_slice.ensures.value, rw c.in-Some.is at c.in_ok-bytes.ensures) c.put_whole.ensures
