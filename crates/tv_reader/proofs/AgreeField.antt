-- Reading a field number agrees with its grammar.
use Rattle.std.proofs.Common.{◌≡◌, ℕ, List, refl, sym, subst}
use Rattle.tv_base.specs.declared.cause.Cause.{Cause}
use Rattle.tv_base.specs.declared.cause.Cause.TheVariants.{UnexpectedEnd}
use Rattle.tv_base.specs.Source.{AllBytes}
use Rattle.tv_base.specs.Number.{Fixed}
use Rattle.tv_base.specs.ErrorInPart.{ErrorInBytes}
use Rattle.tv_base.proofs.Agrees.{Agrees, agrees_too, raised}
use Rattle.tv_base.proofs.AgreeWidths.{u32_agrees}
use Rattle.tv_format.specs.InputError.{Refusal, corrupted, corrupt, Corrupt}
use Rattle.tv_reader.specs.Fields.{field_at}
use Rattle.tv_reader.proofs.Finding.{same_cause}

field_errors : (whole : List ℕ) (r : Refusal) → AllBytes whole → (c : Cause) × ErrorInBytes 4 whole c × (r ≡ corrupted c) → Corrupt (ErrorInBytes 4) whole r
field_errors whole r small h = subst (Corrupt (ErrorInBytes 4) whole) (sym h.2) (corrupt h.1)

pub field_agrees : Agrees (corrupted UnexpectedEnd) field_at (Fixed 4) (Corrupt (ErrorInBytes 4))
unfolding field_at
field_agrees = agrees_too (λ b. refl) (λ w n small p. p) (λ w n p. p) field_errors (raised corrupted same_cause u32_agrees)
