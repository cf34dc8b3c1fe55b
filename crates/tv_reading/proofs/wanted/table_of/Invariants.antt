use Rattle.std.proofs.Common.{◌≡◌, length, take}
use Rattle.tv_reading.specs.Wanted.{IsTable}
use Rattle.tv_reading.proofs.wanted.table_of.Given as goal

abbrev pub invariant-loop-field : goal.invariant-loop-field
invariant-loop-field l = record { len : length l.table ≡ 64; table : IsTable (take l.field-index l.fields) l.table }
