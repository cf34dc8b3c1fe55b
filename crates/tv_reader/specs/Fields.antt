-- Reading a field number from left to right.
use Rattle.std.specs.Prelude.{ℕ, List, Result}
use Rattle.tv_base.specs.Stop.{lifted}
use Rattle.tv_base.specs.Reading.{u32_at}
use Rattle.tv_format.specs.InputError.{Refusal, corrupted}

unfoldable pub field_at : List ℕ → Result (ℕ × List ℕ) (Refusal × List ℕ)
field_at bytes = lifted corrupted (u32_at bytes)
