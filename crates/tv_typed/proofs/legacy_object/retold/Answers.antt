use Rattle.std.proofs.Common.{◌≡◌, ap, ◌∙◌, sym, subst}
use Rattle.tv_base.specs.declared.cause.Cause.{Cause}
use Rattle.tv_base.specs.declared.cause.Cause.TheVariants.{UnexpectedEnd}
use Rattle.tv_reader.specs.declared.error.DeserializeError.{DeserializeError}
use Rattle.tv_reader.specs.declared.error.DeserializeError.TheVariants as errors
use Rattle.tv_typed.specs.LegacyObjects.{Retold, as_it_is, past_the_end}
use Rattle.tv_typed.proofs.legacy_object.retold.Goals as goal

other_cause : (e : DeserializeError) (c : Cause) → e ≡ errors.CorruptedValue c → (c ≡ UnexpectedEnd → ⊥) → Retold e (errors.CorruptedValue c)
other_cause e c is other = subst (Retold e) is (as_it_is (λ at_end. let same : errors.CorruptedValue c ≡ errors.CorruptedValue UnexpectedEnd = sym is ∙ at_end in let causes : c ≡ UnexpectedEnd = cc in other causes))

pub returns-in-UnexpectedEnd : goal.returns-in-UnexpectedEnd
returns-in-UnexpectedEnd c = past_the_end (c.in-CorruptedValue.is ∙ ap errors.CorruptedValue c.in-UnexpectedEnd.is)

pub returns-in_default-cause : goal.returns-in_default-cause
returns-in_default-cause c = other_cause c.args.error c.in-CorruptedValue.cause c.in-CorruptedValue.is c.in_default-cause.not-UnexpectedEnd

pub returns-in_default : goal.returns-in_default
returns-in_default c = as_it_is (λ same. c.in_default.not-CorruptedValue UnexpectedEnd same)
