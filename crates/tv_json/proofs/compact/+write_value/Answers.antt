use Rattle.std.proofs.Common.{◌≡◌, ℕ, List, String, Global, ◌∷◌, [], refl, ap, subst, ◌∙◌, ◌++◌, rules, string_bytes}
use Rattle.std.specs.Prelude.{Some, None}
use Rattle.std.proofs.lemmas.Result.{on_ok_weaker}
use Rattle.json.specs.Token as Token
use Rattle.serde_json.specs.Data.{Members, no_members}
use Rattle.tv_format.specs.Tree.{Tree, array, object, elements, entries}
use Rattle.tv_value.specs.JsonOf.{json_of, elements_json, entries_json}
use Rattle.tv_json.specs.Rising.{KeysRise, entries_of, data_tokens, rest_of_array, rest_of_object, listed_json, pair_entries}
use Rattle.tv_json.proofs.InOrder.{object_in_order}
use Rattle.tv_json.proofs.WrittenParts.{item_written, array_written, member_written, object_written}
use Rattle.tv_json.proofs.compact.+write_value.Goals as goal

-- ---- arrays

pub write_array-loop-item-preserved : goal.write_array-loop-item-preserved
write_array-loop-item-preserved g t c =
    let first = g.met.N.Nested.array_steps c.loop-item.item-iterator c.next.new.self (Some c.in-Some.item) c.in-Some.ensures.steps in
    record {
      tokens = item_written c.loop-item.json.out.tokens c.write_value.new.json.out.tokens (g.N.Nested.tree c.in-Some.item) (g.N.Nested.array_rest c.loop-item.item-iterator) (g.N.Nested.array_rest c.next.new.self)
          (c.begin_array.new.self.tokens ++ rest_of_array (elements_json (elements (g.N.Nested.array_rest c.args.items)))) c.in_ok-write_value.ensures.ok first c.loop-item.invariant.tokens;
      before = c.write_value.ensures.before ∙ c.loop-item.invariant.before;
    }

pub write_array-returns-clause-ok : goal.write_array-returns-clause-ok
write_array-returns-clause-ok g t c =
    let none = (g.met.N.Nested.array_steps c.loop-item.item-iterator c.next.new.self None c.in-None.ensures.steps).0 in
    on_ok_weaker c.end_array.result
    (array_written c.args.json.now.out.tokens c.begin_array.new.self.tokens c.loop-item.json.out.tokens c.end_array.new.self.tokens (g.N.Nested.array_rest c.args.items) (g.N.Nested.array_rest c.loop-item.item-iterator)
    c.in_ok-begin_array.ensures.ok none c.loop-item.invariant.tokens)
    c.end_array.ensures.ok

pub write_array-loop-item-init : goal.write_array-loop-item-init
write_array-loop-item-init g t c = record {
  tokens = ap (λ s. c.begin_array.new.self.tokens ++ rest_of_array (elements_json (elements (g.N.Nested.array_rest s)))) c.into_iter-item-iterator.ensures.into_iter_gives;
  before = refl;
}

pub write_array-returns-in_err-begin_array-clause-before : goal.write_array-returns-in_err-begin_array-clause-before
write_array-returns-in_err-begin_array-clause-before g t c = c.begin_array.ensures.room.0

pub write_array-returns-in_err-write_value-clause-before : goal.write_array-returns-in_err-write_value-clause-before
write_array-returns-in_err-write_value-clause-before g t c = c.write_value.ensures.before ∙ c.loop-item.invariant.before ∙ c.begin_array.ensures.room.0

pub write_array-returns-clause-before : goal.write_array-returns-clause-before
write_array-returns-clause-before g t c = c.end_array.ensures.room.0 ∙ c.loop-item.invariant.before ∙ c.begin_array.ensures.room.0

-- ---- objects

pub write_members-loop-key-preserved : goal.write_members-loop-key-preserved
write_members-loop-key-preserved g t c =
    let first = g.met.N.Nested.object_steps c.loop-key.key-iterator c.next.new.self (Some (c.in-Some.key, c.in-Some.value)) c.in-Some.ensures.steps in
    let key = g.N.Key.AsStr.text c.in-Some.key in
    let named : c.key.new.self.tokens ≡ c.loop-key.json.out.tokens ++ Token.key key ∷ [] = search rules in
    record {
      tokens = member_written c.loop-key.json.out.tokens c.key.new.self.tokens c.write_value.new.json.out.tokens key (g.N.Nested.tree c.in-Some.value) (g.N.Nested.object_rest c.loop-key.key-iterator)
          (g.N.Nested.object_rest c.next.new.self) (c.begin_object.new.self.tokens ++ rest_of_object (listed_json (g.N.Nested.object_rest c.args.members))) named c.in_ok-write_value.ensures.ok first
          c.loop-key.invariant.tokens;
      before = c.write_value.ensures.before ∙ c.key.ensures.room.0 ∙ c.loop-key.invariant.before;
    }

pub write_members-returns-clause-ok : goal.write_members-returns-clause-ok
write_members-returns-clause-ok g t c =
    let none = (g.met.N.Nested.object_steps c.loop-key.key-iterator c.next.new.self None c.in-None.ensures.steps).0 in
    on_ok_weaker c.end_object.result
    (object_written c.args.json.now.out.tokens c.begin_object.new.self.tokens c.loop-key.json.out.tokens c.end_object.new.self.tokens (listed_json (g.N.Nested.object_rest c.loop-key.key-iterator))
    (listed_json (g.N.Nested.object_rest c.args.members)) c.in_ok-begin_object.ensures.ok (ap listed_json none) c.loop-key.invariant.tokens)
    c.end_object.ensures.ok

pub write_members-loop-key-init : goal.write_members-loop-key-init
write_members-loop-key-init g t c = record {
  tokens = ap (λ s. c.begin_object.new.self.tokens ++ rest_of_object (listed_json (g.N.Nested.object_rest s))) c.into_iter-key-iterator.ensures.into_iter_gives;
  before = refl;
}

pub write_members-returns-in_err-begin_object-clause-before : goal.write_members-returns-in_err-begin_object-clause-before
write_members-returns-in_err-begin_object-clause-before g t c = c.begin_object.ensures.room.0

pub write_members-returns-in_err-key-clause-before : goal.write_members-returns-in_err-key-clause-before
write_members-returns-in_err-key-clause-before g t c = c.key.ensures.room.0 ∙ c.loop-key.invariant.before ∙ c.begin_object.ensures.room.0

pub write_members-returns-in_err-write_value-clause-before : goal.write_members-returns-in_err-write_value-clause-before
write_members-returns-in_err-write_value-clause-before g t c =
    c.write_value.ensures.before ∙ c.key.ensures.room.0 ∙ c.loop-key.invariant.before ∙ c.begin_object.ensures.room.0

pub write_members-returns-clause-before : goal.write_members-returns-clause-before
write_members-returns-clause-before g t c = c.end_object.ensures.room.0 ∙ c.loop-key.invariant.before ∙ c.begin_object.ensures.room.0

pub write_by_key-loop-key-preserved : goal.write_by_key-loop-key-preserved
write_by_key-loop-key-preserved g t c =
    let members : List (String Global × g.row.N.Denot) → List (List ℕ × Tree) = pair_entries g.N.Nested.tree in
    let first : c.loop-key.key-iterator ≡ (c.in-Some.key, c.in-Some.value) ∷ c.next.new.self = search rules in
    let named : c.key.new.self.tokens ≡ c.loop-key.json.out.tokens ++ Token.key (string_bytes c.in-Some.key) ∷ [] = search rules in
    record {
      tokens = member_written c.loop-key.json.out.tokens c.key.new.self.tokens c.write_value.new.json.out.tokens (string_bytes c.in-Some.key) (g.N.Nested.tree c.in-Some.value) (members c.loop-key.key-iterator)
          (members c.next.new.self) (c.begin_object.new.self.tokens ++ rest_of_object (listed_json (members c.into_iter-key-iterator.result))) named c.in_ok-write_value.ensures.ok (ap members first)
          c.loop-key.invariant.tokens;
      before = c.write_value.ensures.before ∙ c.key.ensures.room.0 ∙ c.loop-key.invariant.before;
    }

pub write_by_key-returns-clause-ok : goal.write_by_key-returns-clause-ok
write_by_key-returns-clause-ok g t c =
    let members : List (String Global × g.row.N.Denot) → Members = λ pairs. listed_json (pair_entries g.N.Nested.tree pairs) in
    let all = entries_json (entries (g.N.Nested.object_rest c.args.members)) no_members in
    let none : c.loop-key.key-iterator ≡ [] = search rules in
    let whole : members c.into_iter-key-iterator.result ≡ all = ap members c.into_iter-key-iterator.ensures.into_iter_gives.0 ∙ c.in_ok-items.ensures in
    on_ok_weaker c.end_object.result
    (object_written c.args.json.now.out.tokens c.begin_object.new.self.tokens c.loop-key.json.out.tokens c.end_object.new.self.tokens (members c.loop-key.key-iterator) all c.in_ok-begin_object.ensures.ok
    (ap members none) (c.loop-key.invariant.tokens ∙ ap (λ z. c.begin_object.new.self.tokens ++ rest_of_object z) whole))
    c.end_object.ensures.ok

pub write_by_key-loop-key-init : goal.write_by_key-loop-key-init
write_by_key-loop-key-init g t c = record {
  tokens = refl;
  before = refl;
}

pub write_by_key-returns-in_err-begin_object-clause-before : goal.write_by_key-returns-in_err-begin_object-clause-before
write_by_key-returns-in_err-begin_object-clause-before g t c = c.begin_object.ensures.room.0

pub write_by_key-returns-in_err-key-items-clause-before : goal.write_by_key-returns-in_err-key-items-clause-before
write_by_key-returns-in_err-key-items-clause-before g t c = c.begin_object.ensures.room.0

pub write_by_key-returns-in_err-key-clause-before : goal.write_by_key-returns-in_err-key-clause-before
write_by_key-returns-in_err-key-clause-before g t c = c.key.ensures.room.0 ∙ c.loop-key.invariant.before ∙ c.begin_object.ensures.room.0

pub write_by_key-returns-in_err-write_value-clause-before : goal.write_by_key-returns-in_err-write_value-clause-before
write_by_key-returns-in_err-write_value-clause-before g t c =
    c.write_value.ensures.before ∙ c.key.ensures.room.0 ∙ c.loop-key.invariant.before ∙ c.begin_object.ensures.room.0

pub write_by_key-returns-clause-before : goal.write_by_key-returns-clause-before
write_by_key-returns-clause-before g t c = c.end_object.ensures.room.0 ∙ c.loop-key.invariant.before ∙ c.begin_object.ensures.room.0

-- ---- values

pub write_value-returns-in-Array-clause-ok : goal.write_value-returns-in-Array-clause-ok
write_value-returns-in-Array-clause-ok g t c =
    let whole : array (elements (g.N.Nested.array_rest c.in-Array.items)) ≡ g.N.Nested.tree c.args.value.now = c.in-Array.ensures in
    on_ok_weaker c.write_array.result (λ last. last ∙ ap (λ z. c.args.json.now.out.tokens ++ data_tokens (json_of z)) whole) c.write_array.ensures.ok

pub write_value-returns-then-is_in_order-clause-ok : goal.write_value-returns-then-is_in_order-clause-ok
write_value-returns-then-is_in_order-clause-ok g t c =
    let tree = g.N.Nested.tree c.args.value.now in
    let es = g.N.Nested.object_rest c.in-Object.members in
    let whole : object (entries es) ≡ tree = c.in-Object.ensures in
    let rises : KeysRise (entries_of tree) = subst (λ z. KeysRise (entries_of z)) c.as_nested-in-Object.ensures (c.is_in_order.ensures c.if-is_in_order.true) in
    on_ok_weaker c.write_members.result (λ last. last ∙ ap (λ z. c.args.json.now.out.tokens ++ data_tokens z) (object_in_order tree es whole rises))
    c.write_members.ensures.ok

pub write_value-returns-else-is_in_order-clause-ok : goal.write_value-returns-else-is_in_order-clause-ok
write_value-returns-else-is_in_order-clause-ok g t c =
    let whole : object (entries (g.N.Nested.object_rest c.in-Object.members)) ≡ g.N.Nested.tree c.args.value.now = c.in-Object.ensures in
    on_ok_weaker c.write_by_key.result (λ last. last ∙ ap (λ z. c.args.json.now.out.tokens ++ data_tokens (json_of z)) whole) c.write_by_key.ensures.ok

pub write_value-returns-then-levels-eq0-clause-ok : goal.write_value-returns-then-levels-eq0-clause-ok
write_value-returns-then-levels-eq0-clause-ok g t c = c.write_deep.ensures.ok

pub write_value-returns-then-levels-eq0-clause-before : goal.write_value-returns-then-levels-eq0-clause-before
write_value-returns-then-levels-eq0-clause-before g t c = c.write_deep.ensures.before

pub write_value-returns-in-Leaf-clause-ok : goal.write_value-returns-in-Leaf-clause-ok
write_value-returns-in-Leaf-clause-ok g t c = on_ok_weaker c.write_leaf.result (λ last. last ∙ ap (λ z. c.args.json.now.out.tokens ++ data_tokens (json_of z)) c.in-Leaf.ensures) c.write_leaf.ensures.ok

pub write_value-returns-in-Leaf-clause-before : goal.write_value-returns-in-Leaf-clause-before
write_value-returns-in-Leaf-clause-before g t c = c.write_leaf.ensures.before

pub write_value-returns-in-Array-clause-before : goal.write_value-returns-in-Array-clause-before
write_value-returns-in-Array-clause-before g t c = c.write_array.ensures.before

pub write_value-returns-then-is_in_order-clause-before : goal.write_value-returns-then-is_in_order-clause-before
write_value-returns-then-is_in_order-clause-before g t c = c.write_members.ensures.before

pub write_value-returns-else-is_in_order-clause-before : goal.write_value-returns-else-is_in_order-clause-before
write_value-returns-else-is_in_order-clause-before g t c = c.write_by_key.ensures.before
