-- A value that is kept behind a pointer, or none after null.
use Rattle.std.specs.Borrow.{Fml, RattleType}
use Rattle.std.specs.Box.Ownership.{box_owns}
use Rattle.std.specs.Global.{Global}
use Rattle.std.specs.Prelude.{Option, Some, None}
use Rattle.std.specs.Ptr.{Ptr, null_ptr}
use Rattle.std.specs.contracts.impls.GlobalAllocator.TheImpl.{ghosts}
use base.Fml.{feq, fex}

-- what is owned where no value is kept behind the pointer, or this one in a box
abbrev pub keeps : (R : RattleType) → Ptr → Option R.Denot → Fml
keeps R p None = feq Ptr p null_ptr
keeps R p (Some x) = fex Global (λ heap. box_owns (ghosts.dealloc_token heap) R p x)
