use Rattle.std.proofs.Common.{Ok, refl, sym, ◌∙◌}
use Rattle.tv_builder.specs.Builder.{state_of}
use Rattle.tv_reading.proofs.Building.{finished}
use Rattle.tv_reading.proofs.Putting.{closed, stays, finish_awaited}
use Rattle.tv_reading.proofs.reading.Reading.close_pair.Goals as goal

pub returns-in_default : goal.returns-in_default
returns-in_default c = record { puts = stays c.args.self.now c.requires (λ e. c.in_default.not-Finish (c.awaits.ensures ∙ e)); after_error = tt }

pub returns-in-Ok-clause-puts : goal.returns-in-Ok-clause-puts
returns-in-Ok-clause-puts c =
    let r = c.args.self.now in
    let whole = finish_awaited (state_of r.builder) (sym c.awaits.ensures ∙ c.in-Finish.is) in
    closed r _ c.in-Some-Some.field c.requires c.in-Some-Some.is-0 (finished r.builder c.finish.new.self c.in-Some-Some.field (Ok c.in-Ok.field-0) c.requires.not_failed whole c.in-Ok.ensures) refl refl refl
