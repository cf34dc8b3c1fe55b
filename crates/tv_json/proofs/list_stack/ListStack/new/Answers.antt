use Rattle.std.proofs.Common.{refl}
use Rattle.tv_json.specs.ListKinds.{kinds}
use Rattle.tv_json.proofs.list_stack.ListStack.new.Goals as goal

pub returns : goal.returns
unfolding kinds
returns c = refl
