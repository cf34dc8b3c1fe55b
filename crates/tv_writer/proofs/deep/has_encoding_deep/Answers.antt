use Rattle.std.proofs.Common.{sym, subst}
use Rattle.tv_value.specs.Children.{IsListOf}
use Rattle.tv_writer.specs.Children.{HasHead}
use Rattle.tv_writer.proofs.Encoded.{decided}
use Rattle.tv_writer.proofs.WriterSteps.{list_parts, list_value, value_has_head}
use Rattle.tv_writer.proofs.deep.has_encoding_deep.Goals as goal

pub returns-then-not-has_head : goal.returns-then-not-has_head
returns-then-not-has_head g c = λ value. c.if-not-has_head.ensures (subst HasHead (sym c.lend.ensures) (value_has_head _ value))

pub returns-in-Ok : goal.returns-in-Ok
returns-in-Ok g c =
    let tree = g.V.Value.tree c.args.value.now in
    let list = subst (IsListOf _) c.lend-2.ensures c.in-Ok.ensures.list in
    let head = subst HasHead c.lend.ensures c.if-not-has_head.ensures in
    decided c.are_encoded.result (list_value _ tree list head) (λ value. (list_parts _ tree list value).1) c.are_encoded.ensures
