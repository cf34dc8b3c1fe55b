use Rattle.tv_heap.specs.Held.{same_held}
use Rattle.tv_heap.specs.TypeCode.{type_code}
use Rattle.tv_heap.proofs.value.CompactDocValue.new.Goals as goal

pub returns : goal.returns
returns c = record { tree = λ held. same_held c.args.heap.now (type_code c.args.value_type) c.args.address c.result-1.given.0 held }
