use Rattle.std.proofs.Common.{◌≡◌, ◌++◌, ap, subst, ◌∙◌, rules}
use Rattle.std.proofs.lemmas.Result.{on_ok_weaker}
use Rattle.tv_format.specs.Tree.{object, entries}
use Rattle.tv_json.specs.Rising.{KeysRise, entries_of, data_tokens}
use Rattle.tv_json.proofs.InOrder.{object_in_order}
use Rattle.tv_json.proofs.compact.write_lent.Goals as goal

pub returns-then-is_in_order-clause-ok : goal.returns-then-is_in_order-clause-ok
returns-then-is_in_order-clause-ok g c =
    let tree = g.V.Value.tree c.args.value.now in
    let es = g.V.Value.object_rest c.in-Object.members.members in
    let whole : object (entries es) ≡ tree = search rules in
    let rises : KeysRise (entries_of tree) = subst (λ z. KeysRise (entries_of z)) c.lend-in-Object.ensures (c.is_in_order.ensures c.if-is_in_order.true) in
    on_ok_weaker c.write_members.result (λ last. last ∙ ap (λ z. c.args.json.now.out.tokens ++ data_tokens z) (object_in_order tree es whole rises))
    c.write_members.ensures.ok
