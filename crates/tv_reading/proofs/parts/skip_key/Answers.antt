use Rattle.tv_format.specs.InputError.{ErrorInKey}
use Rattle.tv_format.specs.Version.{V3}
use Rattle.tv_reading.specs.Skip.{Before}
use Rattle.tv_reading.specs.declared.items.ItemKind.TheVariants as kinds
use Rattle.tv_reading.proofs.Passing.{finds_map, older_key}
use Rattle.tv_reading.proofs.parts.skip_key.Goals as goal

pub returns-in-V1 : goal.returns-in-V1
returns-in-V1 g c = record { finds = older_key c.args.version _ c.in-V1.is c.skip_coded_text.ensures.finds }

pub returns-in-V3 : goal.returns-in-V3
returns-in-V3 g c = record { finds = rw c.in-V3.is (finds_map (λ b _. Before V3 kinds.Entry b) (ErrorInKey V3) _ (λ a x t. t) (λ w r f. f) c.skip_text.ensures.finds) }
