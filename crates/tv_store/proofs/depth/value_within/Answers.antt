use Rattle.std.proofs.Common.{◌-◌, sym, subst, arith, rules}
use Rattle.std.specs.Prelude.{◌↔◌, IfOk, IsTrue}
use Rattle.tv_value.proofs.ListChildren.{list_nests}
use Rattle.tv_value.specs.Children.{IsListOf}
use Rattle.tv_store.proofs.WithinDepth.{nests_more}
use Rattle.tv_store.proofs.depth.value_within.Goals as goal

pub returns-then-nests_within : goal.returns-then-nests_within
returns-then-nests_within g c =
    (λ h. nests_more 128 c.args.depth (g.V.Value.tree c.args.value.now) (omega arith) (c.nests_within-2.ensures.0 (search rules)), λ h. search rules)

pub returns-in-Ok : goal.returns-in-Ok
returns-in-Ok g c =
    let list = subst (IsListOf _) c.lend.ensures c.in-Ok.ensures.list in
    let same = list_nests c.args.depth (c.args.depth - 1) _ _ list (omega arith) in
    subst (λ z. IfOk c.rest_within.result (λ within. IsTrue within ↔ z)) (sym same) c.rest_within.ensures
