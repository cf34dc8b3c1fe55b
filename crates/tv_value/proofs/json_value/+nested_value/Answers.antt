use Rattle.std.proofs.Common.{◌≡◌, ◌+◌, ◌<◌, suc, ◌∷◌, [], sym, ap, ◌∙◌, rules, arith}
use Rattle.std.specs.Prelude.{Some, None}
use Rattle.std.proofs.lemmas.Result.{IfOk-weaker}
use Rattle.serde_json.proofs.Views.{view-Array, view-Object}
use Rattle.serde_json.specs.Data as json
use Rattle.serde_json.specs.Data.{item, no_members}
use Rattle.serde_json.specs.View.{view as data_of, members_view}
use Rattle.tv_format.specs.Size.{size, elements_size, entries_size}
use Rattle.tv_format.specs.Tree.{array, object, elements, entries}
use Rattle.tv_value.specs.JsonOf.{json_of, elements_json, entries_json}
use Rattle.tv_value.proofs.JsonParts.{items_before, items_before-no_items, items_push, member_put}
use Rattle.tv_value.proofs.json_value.+nested_value.Goals as goal

pub item_values-loop-item-preserved : goal.item_values-loop-item-preserved
item_values-loop-item-preserved g t c =
    let left = g.N.Nested.array_rest in
    let rest = elements_json (elements (left c.next.new.self)) in
    let values = c.loop-item.values.items in
    let tree = g.N.Nested.tree c.in-Some.item in
    let cut : left c.loop-item.item-iterator ≡ tree ∷ left c.next.new.self = g.met.N.Nested.array_steps c.loop-item.item-iterator c.next.new.self (Some c.in-Some.item) c.in-Some.ensures.steps in
    let sizes : elements_size (elements (left c.loop-item.item-iterator)) ≡ suc (size tree + elements_size (elements (left c.next.new.self))) = ap (λ ts. elements_size (elements ts)) cut in
    record {
      items = ap (λ vs. items_before vs rest) c.in_ok-push.ensures.items ∙ items_push values c.in_ok-value.value rest
          ∙ ap (λ d. items_before values (item d rest)) c.in_ok-value.ensures ∙ ap (λ ts. items_before values (elements_json (elements ts))) (sym cut) ∙ c.loop-item.invariant.items;
      left = let before = c.loop-item.invariant.left in omega (arith, sizes, before);
    }

pub item_values-returns : goal.item_values-returns
item_values-returns g t c =
    let values = c.loop-item.values.items in
    let none : g.N.Nested.array_rest c.loop-item.item-iterator ≡ [] = (g.met.N.Nested.array_steps c.loop-item.item-iterator c.next.new.self None c.in-None.ensures.steps).0 in
    sym (items_before-no_items values) ∙ ap (λ ts. items_before values (elements_json (elements ts))) (sym none) ∙ c.loop-item.invariant.items

pub item_values-nested_value-requires : goal.item_values-nested_value-requires
item_values-nested_value-requires g t c κs within =
    let whole = ap (λ l. elements_size (elements l)) (g.met.N.Nested.array_steps c.loop-item.item-iterator c.next.new.self (Some c.in-Some.item) c.in-Some.ensures.steps) in
    let smaller : size (g.N.Nested.tree c.in-Some.item) < elements_size (elements (g.N.Nested.array_rest c.args.items)) = omega (arith, whole, c.loop-item.invariant.left) in
    search (rules, smaller)

pub member_values-nested_value-requires : goal.member_values-nested_value-requires
member_values-nested_value-requires g t c κs within =
    let whole = ap (λ l. entries_size (entries l)) (g.met.N.Nested.object_steps c.loop-key.key-iterator c.next.new.self (Some (c.in-Some.key, c.in-Some.member)) c.in-Some.ensures.steps) in
    let smaller : size (g.N.Nested.tree c.in-Some.member) < entries_size (entries (g.N.Nested.object_rest c.args.members)) = omega (arith, whole, c.loop-key.invariant.left) in
    search (rules, smaller)

pub member_values-loop-key-preserved : goal.member_values-loop-key-preserved
member_values-loop-key-preserved g t c =
    let first = g.met.N.Nested.object_steps c.loop-key.key-iterator c.next.new.self (Some (c.in-Some.key, c.in-Some.member)) c.in-Some.ensures.steps in
    let sizes = ap (λ es. entries_size (entries es)) first in
    record {
      members = member_put c.as_str.result.now (g.N.Key.AsStr.text c.in-Some.key) (data_of c.in_ok-value.value) (g.N.Nested.tree c.in-Some.member) (members_view c.loop-key.values.entries) (members_view c.put_member.new.members.entries)
          (entries_json (entries (g.N.Nested.object_rest c.args.members)) no_members) (g.N.Nested.object_rest c.loop-key.key-iterator) (g.N.Nested.object_rest c.next.new.self)
          c.in_ok-put_member.ensures c.as_str.ensures c.in_ok-value.ensures first c.loop-key.invariant.members;
      left = omega (arith, sizes, c.loop-key.invariant.left);
    }

pub nested_value-item_values-requires : goal.nested_value-item_values-requires
nested_value-item_values-requires g t c κs within =
    let whole : array (elements (g.N.Nested.array_rest c.in-Array.items)) ≡ g.N.Nested.tree c.args.value.now = c.in-Array.ensures in
    let sizes = ap size whole in
    let smaller : elements_size (elements (g.N.Nested.array_rest c.in-Array.items)) < size (g.N.Nested.tree c.args.value.now) = omega (arith, sizes) in
    search (rules, smaller)

pub nested_value-member_values-requires : goal.nested_value-member_values-requires
nested_value-member_values-requires g t c κs within =
    let whole : object (entries (g.N.Nested.object_rest c.in-Object.members)) ≡ g.N.Nested.tree c.args.value.now = c.in-Object.ensures in
    let sizes = ap size whole in
    let smaller : entries_size (entries (g.N.Nested.object_rest c.in-Object.members)) < size (g.N.Nested.tree c.args.value.now) = omega (arith, sizes) in
    search (rules, smaller)

pub member_values-returns : goal.member_values-returns
member_values-returns g t c =
    let none = (g.met.N.Nested.object_steps c.loop-key.key-iterator c.next.new.self None c.in-None.ensures.steps).0 in
    ap (λ es. entries_json (entries es) (members_view c.loop-key.values.entries)) (sym none) ∙ c.loop-key.invariant.members

pub nested_value-returns-in-Leaf : goal.nested_value-returns-in-Leaf
nested_value-returns-in-Leaf g t c = IfOk-weaker c.leaf_value.result _ _ (λ made is. is ∙ ap json_of c.in-Leaf.ensures) c.leaf_value.ensures

pub nested_value-returns-in_ok-item_values-in-Array : goal.nested_value-returns-in_ok-item_values-in-Array
nested_value-returns-in_ok-item_values-in-Array g t c =
    view-Array c.in_ok-item_values-in-Array.field-0 ∙ ap json.array c.in_ok-item_values-in-Array.ensures ∙ ap json_of c.in-Array.ensures

pub nested_value-returns-in_ok-member_values-in-Object : goal.nested_value-returns-in_ok-member_values-in-Object
nested_value-returns-in_ok-member_values-in-Object g t c =
    view-Object c.in_ok-member_values-in-Object.field-0 ∙ ap json.object c.in_ok-member_values-in-Object.ensures ∙ ap json_of c.in-Object.ensures
