use Rattle.std.proofs.Common.{◌≡◌, ◌<◌, ◌∙◌, ◌∷◌, ◌++◌, ℕ, List, [], String, Global, string_bytes, map, ap, refl, sym, arith, rules}
use Rattle.std.proofs.lemmas.Result.{IfOk-weaker}
use Rattle.std.specs.Prelude.{Some, None}
use Rattle.tv_value.specs.Lent.{nested_tree}
use Rattle.tv_value.specs.Owned.{owned_tree, owned_entries}
use Rattle.tv_format.specs.Size.{size, elements_size, entries_size}
use Rattle.tv_format.specs.Tree.{Tree, array, object, elements, entries}
use Rattle.tv_value.specs.declared.owned_value.OwnedValue.{OwnedValue, the_lemmas}
use Rattle.tv_value.specs.declared.owned_value.OwnedValue.TheVariants as owned
use Rattle.tv_value.proofs.copy.+copies.Goals as goal

-- nothing is left, so that all are made
behind_none : {A : Type 0} (xs : List A) → xs ++ [] ≡ xs
behind_none [] = refl
behind_none (x ∷ xs) = ap (λ l. x ∷ l) (behind_none xs)

all_made : {A : Type 0} (made rest whole : List A) → made ++ rest ≡ whole → rest ≡ [] → made ≡ whole
all_made made rest whole so_far none = sym (behind_none made) ∙ ap (λ l. made ++ l) (sym none) ∙ so_far

-- one more is made
items_push : (made : List OwnedValue) (v : OwnedValue) (rest : List Tree) → map owned_tree (made ++ v ∷ []) ++ rest ≡ map owned_tree made ++ (owned_tree v ∷ rest)
items_push [] v rest = refl
items_push (w ∷ ws) v rest = ap (λ l. owned_tree w ∷ l) (items_push ws v rest)

item_made : (made pushed : List OwnedValue) (v : OwnedValue) (lent t : Tree) (rest before whole : List Tree) → map owned_tree made ++ before ≡ whole → before ≡ t ∷ rest → pushed ≡ made ++ v ∷ []
    → owned_tree v ≡ lent → lent ≡ t → map owned_tree pushed ++ rest ≡ whole
item_made made pushed v lent t rest before whole so_far first push copied is =
    ap (λ l. map owned_tree l ++ rest) push ∙ items_push made v rest ∙ ap (λ x. map owned_tree made ++ (x ∷ rest)) (copied ∙ is) ∙ ap (λ l. map owned_tree made ++ l) (sym first) ∙ so_far

members_push : (made : List (String Global × OwnedValue)) (name : String Global) (v : OwnedValue) (rest : List (List ℕ × Tree))
    → owned_entries (made ++ (name, v) ∷ []) ++ rest ≡ owned_entries made ++ ((string_bytes name, owned_tree v) ∷ rest)
members_push [] name v rest = refl
members_push (m ∷ ms) name v rest = ap (λ l. (string_bytes m.0, owned_tree m.1) ∷ l) (members_push ms name v rest)

member_made : (made pushed : List (String Global × OwnedValue)) (name : String Global) (v : OwnedValue) (key k : List ℕ) (lent t : Tree) (rest before whole : List (List ℕ × Tree))
    → owned_entries made ++ before ≡ whole → before ≡ (k, t) ∷ rest → pushed ≡ made ++ (name, v) ∷ [] → string_bytes name ≡ key → key ≡ k → owned_tree v ≡ lent → lent ≡ t
    → owned_entries pushed ++ rest ≡ whole
member_made made pushed name v key k lent t rest before whole so_far first push kept named copied is =
    ap (λ l. owned_entries l ++ rest) push ∙ members_push made name v rest ∙ ap (λ x. owned_entries made ++ ((x, owned_tree v) ∷ rest)) (kept ∙ named) ∙ ap (λ x. owned_entries made ++ ((k, x) ∷ rest)) (copied ∙ is)
    ∙ ap (λ l. owned_entries made ++ l) (sym first) ∙ so_far

-- ---- arrays

pub owned_array-loop-item-init : goal.owned_array-loop-item-init
owned_array-loop-item-init g t c =
    let rest = g.N.Nested.array_rest in
    let all = c.into_iter-item-iterator.ensures.into_iter_gives in
    let sizes = ap (λ s. elements_size (elements (rest s))) all in
    record {
      items = ap (λ made. map owned_tree made ++ rest c.into_iter-item-iterator.result) c.new-owned.ensures.items ∙ ap rest all;
      smaller = omega (arith, sizes);
    }

pub owned_array-owned_of-requires : goal.owned_array-owned_of-requires
owned_array-owned_of-requires g t c κs within =
    let whole = ap (λ l. elements_size (elements l)) (g.met.N.Nested.array_steps c.loop-item.item-iterator c.next.new.self (Some c.in-Some.item) c.in-Some.ensures.steps) in
    let child = ap size c.as_nested.ensures in
    let smaller : size (nested_tree g.N.Nested.array_rest g.N.Nested.object_rest c.as_nested.result) < elements_size (elements (g.N.Nested.array_rest c.args.items)) = omega (arith, whole, child, c.loop-item.invariant.smaller) in
    search (rules, smaller)

pub owned_array-loop-item-preserved : goal.owned_array-loop-item-preserved
owned_array-loop-item-preserved g t c =
    let first = g.met.N.Nested.array_steps c.loop-item.item-iterator c.next.new.self (Some c.in-Some.item) c.in-Some.ensures.steps in
    let whole = ap (λ l. elements_size (elements l)) first in
    record {
      items = item_made c.loop-item.owned.items c.push.new.self.items c.in_ok-owned_of.field-0 (nested_tree g.N.Nested.array_rest g.N.Nested.object_rest c.as_nested.result) (g.N.Nested.tree c.in-Some.item) (g.N.Nested.array_rest c.next.new.self) (g.N.Nested.array_rest c.loop-item.item-iterator)
          (g.N.Nested.array_rest c.args.items) c.loop-item.invariant.items first c.in_ok-push.ensures.items c.in_ok-owned_of.ensures c.as_nested.ensures;
      smaller = omega (arith, whole, c.loop-item.invariant.smaller);
    }

pub owned_array-returns : goal.owned_array-returns
owned_array-returns g t c =
    let none = (g.met.N.Nested.array_steps c.loop-item.item-iterator c.next.new.self None c.in-None.ensures.steps).0 in
    let whole = all_made (map owned_tree c.loop-item.owned.items) (g.N.Nested.array_rest c.loop-item.item-iterator) (g.N.Nested.array_rest c.args.items) c.loop-item.invariant.items none in
    let level : owned_tree (owned.Array c.loop-item.owned) ≡ array (elements (map owned_tree c.loop-item.owned.items)) = search (rules, the_lemmas) in
    level ∙ ap (λ z. array (elements z)) whole

-- ---- objects

pub owned_object-loop-key-init : goal.owned_object-loop-key-init
owned_object-loop-key-init g t c =
    let rest = g.N.Nested.object_rest in
    let all = c.into_iter-key-iterator.ensures.into_iter_gives in
    let sizes = ap (λ s. entries_size (entries (rest s))) all in
    record {
      members = ap (λ made. owned_entries made ++ rest c.into_iter-key-iterator.result) c.new-owned.ensures.items ∙ ap rest all;
      smaller = omega (arith, sizes);
    }

pub owned_object-owned_of-requires : goal.owned_object-owned_of-requires
owned_object-owned_of-requires g t c κs within =
    let whole = ap (λ l. entries_size (entries l)) (g.met.N.Nested.object_steps c.loop-key.key-iterator c.next.new.self (Some (c.in-Some.key, c.in-Some.item)) c.in-Some.ensures.steps) in
    let child = ap size c.as_nested.ensures in
    let smaller : size (nested_tree g.N.Nested.array_rest g.N.Nested.object_rest c.as_nested.result) < entries_size (entries (g.N.Nested.object_rest c.args.members)) = omega (arith, whole, child, c.loop-key.invariant.smaller) in
    search (rules, smaller)

pub owned_object-loop-key-preserved : goal.owned_object-loop-key-preserved
owned_object-loop-key-preserved g t c =
    let first = g.met.N.Nested.object_steps c.loop-key.key-iterator c.next.new.self (Some (c.in-Some.key, c.in-Some.item)) c.in-Some.ensures.steps in
    let whole = ap (λ l. entries_size (entries l)) first in
    record {
      members = member_made c.loop-key.owned.items c.push.new.self.items c.in_ok-name.name c.in_ok-owned_of.field-0 c.as_str.result.now (g.N.Key.AsStr.text c.in-Some.key)
          (nested_tree g.N.Nested.array_rest g.N.Nested.object_rest c.as_nested.result) (g.N.Nested.tree c.in-Some.item) (g.N.Nested.object_rest c.next.new.self)
          (g.N.Nested.object_rest c.loop-key.key-iterator) (g.N.Nested.object_rest c.args.members) c.loop-key.invariant.members first c.in_ok-push.ensures.items c.in_ok-name.ensures.ok c.as_str.ensures c.in_ok-owned_of.ensures c.as_nested.ensures;
      smaller = omega (arith, whole, c.loop-key.invariant.smaller);
    }

pub owned_object-returns : goal.owned_object-returns
owned_object-returns g t c =
    let none = (g.met.N.Nested.object_steps c.loop-key.key-iterator c.next.new.self None c.in-None.ensures.steps).0 in
    let whole = all_made (owned_entries c.loop-key.owned.items) (g.N.Nested.object_rest c.loop-key.key-iterator) (g.N.Nested.object_rest c.args.members) c.loop-key.invariant.members none in
    let level : owned_tree (owned.Object c.loop-key.owned) ≡ object (entries (owned_entries c.loop-key.owned.items)) = search (rules, the_lemmas) in
    level ∙ ap (λ z. object (entries z)) whole

-- ---- values

pub owned_of-returns-in-Leaf : goal.owned_of-returns-in-Leaf
owned_of-returns-in-Leaf g t c =
    IfOk-weaker c.from_leaf.result _ _ (λ made is. is ∙ ap (nested_tree g.N.Nested.array_rest g.N.Nested.object_rest) (sym c.in-Leaf.is)) c.from_leaf.ensures

pub owned_of-returns-in-Array : goal.owned_of-returns-in-Array
owned_of-returns-in-Array g t c =
    IfOk-weaker c.owned_array.result _ _ (λ made is. is ∙ ap (nested_tree g.N.Nested.array_rest g.N.Nested.object_rest) (sym c.in-Array.is)) c.owned_array.ensures

pub owned_of-returns-in-Object : goal.owned_of-returns-in-Object
owned_of-returns-in-Object g t c =
    IfOk-weaker c.owned_object.result _ _ (λ made is. is ∙ ap (nested_tree g.N.Nested.array_rest g.N.Nested.object_rest) (sym c.in-Object.is)) c.owned_object.ensures
