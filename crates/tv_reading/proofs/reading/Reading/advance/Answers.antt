use Rattle.tv_reader.specs.Version.{version_of}
use Rattle.tv_reading.proofs.reading.Reading.advance.Goals as goal

pub returns-then-is_none : goal.returns-then-is_none
returns-then-is_none g c = c.step_number.ensures (version_of c.args.version) c.args.legacy_seen.now

pub returns-then-is_none-2 : goal.returns-then-is_none-2
returns-then-is_none-2 g c = c.step_field.ensures (version_of c.args.version) c.args.legacy_seen.now

pub returns-in-Key : goal.returns-in-Key
returns-in-Key g c = c.step_key.ensures c.args.legacy_seen.now

pub returns-in-Bytes : goal.returns-in-Bytes
returns-in-Bytes g c = c.step_bytes.ensures (version_of c.args.version) c.args.legacy_seen.now
