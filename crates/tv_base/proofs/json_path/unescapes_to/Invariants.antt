use Rattle.std.proofs.Common.{◌≡◌, not, drop}
use Rattle.std.specs.Str.{bytes_eq}
use Rattle.tv_base.specs.Escapes.{kept_byte, without_escapes}
use Rattle.tv_base.proofs.Rewriting.{rewritten_from}
use Rattle.tv_base.proofs.json_path.unescapes_to.Given as goal

-- the rest of the name is to be compared with the rest of the prefix
abbrev pub invariant-loop-byte : goal.invariant-loop-byte
invariant-loop-byte l =
    bytes_eq l.name (without_escapes l.prefix) ≡ bytes_eq l.rest (rewritten_from kept_byte (not l.is_escape) (drop l.byte-index l.byte-items))
