-- The options of a field of numbers of 64 bits or booleans, as values.
use Rattle.std.specs.Prelude.{true}
use Rattle.tv_options.specs.declared.flag_options.FlagOptions.{FlagOptions}
use Rattle.tv_options.specs.declared.own_part.Coercion.{Coercion}
use Rattle.tv_options.specs.FlagOptions.{none}

abbrev pub only_coerce : FlagOptions Coercion
only_coerce = none (record { coerce = true })
