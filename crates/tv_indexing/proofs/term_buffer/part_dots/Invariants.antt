use Rattle.std.proofs.Common.{◌≡◌, ◌++◌, drop, map, take, true}
use Rattle.tv_base.specs.JsonPath.{expanded}
use Rattle.tv_indexing.proofs.term_buffer.part_dots.Given as goal

-- so far the dots before this byte have been replaced
abbrev pub invariant-loop-byte : goal.invariant-loop-byte
invariant-loop-byte l = l.bytes ≡ map (expanded true) (take l.byte-index l.fn.bytes) ++ drop l.byte-index l.fn.bytes
