use Rattle.std.proofs.Common.{arith}
use Rattle.std.proofs.lemmas.Map.Text.{text_keys}
use Rattle.std.specs.BTreeMap as tree
use Rattle.tv_typed.proofs.ItemSteps.{last_more}
use Rattle.tv_typed.proofs.object.BTreeMapStringEntries.put.Goals as goal

pub returns-in-Ok : goal.returns-in-Ok
returns-in-Ok g c = last_more (λ q. tree.get_by_text c.args.self.now q) (λ q. tree.get_by_text c.insert.new.self q) c.args.key c.args.value (λ q. grind (arith, text_keys))
