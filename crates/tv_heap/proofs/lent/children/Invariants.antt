use Rattle.std.proofs.Common.{◌≡◌, ◌+◌, drop}
use Rattle.tv_heap.specs.Encoded.{last_byte_count}
use Rattle.tv_heap.proofs.lent.children.Given as goal

abbrev pub invariant-loop-byte : goal.invariant-loop-byte
invariant-loop-byte l = l.count + last_byte_count (drop l.byte-index l.list) ≡ last_byte_count l.list
