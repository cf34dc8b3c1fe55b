use Rattle.std.proofs.Common.{◌^◌, ◌<◌, length, sym, subst, arith}
use Rattle.tv_blocks.specs.Blocks.{IsRefusedBlock}
use Rattle.tv_reader.specs.Version.{version_of}
use Rattle.tv_blocks.proofs.Blocks.{export_breaks, prints_all}
use Rattle.tv_blocks.proofs.export.printed_lines.Goals as goal

pub returns-in-Ok-clause-ok : goal.returns-in-Ok-clause-ok
returns-in-Ok-clause-ok c = rw c.into_vec.ensures (prints_all (rw (c.new-source.ensures, c.new-sink.ensures.bytes) at (c.in-Ok.ensures.prints tt tt)))

pub returns-in-Err-clause-err : goal.returns-in-Err-clause-err
returns-in-Err-clause-err c =
    let block = c.args.block.now in
    let small : length block < 2 ^ 63 = omega arith in
    subst (IsRefusedBlock (version_of c.args.version) block) (sym c.unprinted.ensures)
    (export_breaks c.in-Err.error small (rw (c.new-source.ensures, c.new-sink.ensures.bytes) at (c.in-Err.ensures.prints tt tt)))
