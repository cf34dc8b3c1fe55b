use Rattle.std.proofs.Common.{refl, arith, Contains}
use Rattle.tv_options.specs.declared.types.TypeTag.{TypeTag}
use Rattle.tv_options.specs.declared.types.TypeTag.TheVariants.{Str, U64, I64, Bool, Date, Facet, Bytes, Json, IpAddr}
use Rattle.tv_options.specs.Types.{all_types}
use Rattle.tv_options.proofs.laws.types_are_listed_once.Goals as goal

place : (t : TypeTag) → Contains all_types t
place Str = (0, omega arith, refl)
place U64 = (1, omega arith, refl)
place I64 = (2, omega arith, refl)
place Bool = (3, omega arith, refl)
place Date = (4, omega arith, refl)
place Facet = (5, omega arith, refl)
place Bytes = (6, omega arith, refl)
place Json = (7, omega arith, refl)
place IpAddr = (8, omega arith, refl)

pub returns-clause-each : goal.returns-clause-each
returns-clause-each c = place
