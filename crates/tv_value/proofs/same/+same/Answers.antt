use Rattle.std.proofs.Common.{ap, arith}
use Rattle.tv_value.specs.Children.{children_left, children_size}
use Rattle.tv_value.specs.SameChildren.{children_eq}
use Rattle.tv_value.proofs.same.+same.Goals as goal

pub same_children-loop-key-init : goal.same_children-loop-key-init
same_children-loop-key-init g t c =
    let all = c.into_iter-key-iterator.ensures.into_iter_gives in
    let others = children_left g.N.Nested.array_rest g.N.Nested.object_rest c.args.others in
    let sizes = ap (λ s. children_size (children_left g.M.Nested.array_rest g.M.Nested.object_rest s)) all in
    record {
      same = ap (λ s. children_eq (children_left g.M.Nested.array_rest g.M.Nested.object_rest s) others) all;
      smaller = omega (arith, sizes);
    }
