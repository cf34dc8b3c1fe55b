-- What stands in a term for a value without children, for private clauses.
use Rattle.std.specs.Prelude.{ℕ, List}
use Rattle.tv_indexing.specs.declared.leaf.Payload.{Payload}
use Rattle.tv_indexing.specs.declared.leaf.Payload.TheVariants as held
use Rattle.tv_options.specs.declared.types.TypeTag.{TypeTag}
use Rattle.tv_term.specs.Key.{TermValue, payload, tag_of}

abbrev pub payload_bytes : Payload → List ℕ
payload_bytes (held.Bytes bs) = bs.now
payload_bytes (held.Eight bs) = bs
payload_bytes (held.Sixteen bs) = bs

-- a type, and what stands after its code
abbrev pub part_seen : TypeTag × Payload → TypeTag × List ℕ
part_seen part = (part.0, payload_bytes part.1)

-- those of a value
abbrev pub value_parts : TermValue → TypeTag × List ℕ
value_parts value = (tag_of value, payload value)
