-- The exit status of a program that answers lines.
use Rattle.std.specs.Prelude.{ℕ}
use Rattle.tv_lines.specs.declared.runs.RunEnd.{RunEnd}
use Rattle.tv_lines.specs.declared.runs.RunEnd.TheVariants.{Done, BadSchema, Broken}

abbrev pub status_of : RunEnd → ℕ
status_of Done = 0
status_of BadSchema = 1
status_of Broken = 2
