use Rattle.std.proofs.Common.{[], ◌∷◌, refl, arith}
use Rattle.tv_base.specs.Number.Groups.{last}
use Rattle.store_tests.proofs.tests.laws.migrations_in_memory.Goals as goal

pub migrations_are_read_back-requires-clause-begins : goal.migrations_are_read_back-requires-clause-begins
migrations_are_read_back-requires-clause-begins g c = (
  [],
  (
    [],
    (
      record {
        prefix = 128 ∷ [];
        joined = refl;
        encoded = record { prefix = 128 ∷ []; rest = []; joined = refl; first = record { groups = last {n = 0} (omega arith); at_most_ten = omega arith; fits = omega arith }; second = refl };
      },
      omega arith,
    ),
  ),
)
