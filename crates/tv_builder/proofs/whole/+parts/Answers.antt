use Rattle.std.proofs.Common.{◌≡◌, ◌∷◌, ◌++◌, length, ◌≤◌, ◌<◌, refl, ap, sym, ◌∙◌, subst, arith, rules}
use Rattle.tv_base.proofs.Growing.{grows_then}
use Rattle.tv_value.specs.Lent.{nested_tree}
use Rattle.tv_builder.specs.Nested.{flat_entries}
use Rattle.tv_builder.specs.Whole.{Puts}
use Rattle.tv_builder.specs.declared.kinds.ListKind.TheVariants.{Array, Object}
use Rattle.tv_format.specs.Tree.{array, object, elements, entries}
use Rattle.tv_format.specs.Size.{size, elements_size, entries_size}
use Rattle.tv_builder.specs.Given.{place_bytes}
use Rattle.tv_builder.proofs.Putting.{ListOpen, list_opens, list_goes_on, list_refused, list_puts, first_within, items_make, members_make, memory_not, put_grows, leaf_puts, refused, grows_same}
use Rattle.tv_builder.proofs.whole.+parts.Goals as goal

-- ---- arrays

pub put_array-loop-item-init : goal.put_array-loop-item-init
put_array-loop-item-init g t c =
    let all = g.N.Nested.array_rest c.args.items in
    let old = c.args.heap.now.items in
    let start = c.args.places.now.items in
    let whole = ap g.N.Nested.array_rest c.into_iter-item-iterator.ensures.into_iter_gives in
    let opens = subst (λ z. ListOpen c.args.most Array old start (array (elements all)) old start z × (elements_size (elements z) ≤ elements_size (elements all))) (sym whole) (list_opens _ _ _ _ _ c.requires.fits c.requires.most (items_make all), omega arith) in
    (opens.0, opens.1, grows_same _ _)

pub put_array-put_tree-requires : goal.put_array-put_tree-requires
put_array-put_tree-requires g t c = λ κs within.
    let l = c.loop-item in
    let step = ap (λ z. elements_size (elements z)) (g.met.N.Nested.array_steps _ _ _ c.in-Some.ensures.steps) in
    let smaller : size (nested_tree g.N.Nested.array_rest g.N.Nested.object_rest c.as_nested.result) < elements_size (elements (g.N.Nested.array_rest c.args.items)) = omega (arith, step, ap size c.as_nested.ensures, l.invariant.1) in
    let fits : length l.heap.items ≤ c.args.most = l.invariant.0.put.fits in
    search (rules, smaller, fits)

pub put_array-returns-in_err-place-in_default-clause-puts : goal.put_array-returns-in_err-place-in_default-clause-puts
put_array-returns-in_err-place-in_default-clause-puts g t c =
    let step = g.met.N.Nested.array_steps _ _ _ c.in-Some.ensures.steps in
    let first = step ∙ ap (λ z. z ∷ g.N.Nested.array_rest c.next.new.self) (sym c.as_nested.ensures) in
    refused _ _ _ _ _ _ _ c.from_residual-in_err-place-in_default.ensures.1 (list_refused _ _ _ _ _ _ _ _ _ _ _ c.loop-item.invariant.0 first c.in_err-place-in_default.ensures.puts)

pub put_array-returns-in_err-push_place-in_default-clause-puts : goal.put_array-returns-in_err-push_place-in_default-clause-puts
put_array-returns-in_err-push_place-in_default-clause-puts g t c =
    let step = g.met.N.Nested.array_steps _ _ _ c.in-Some.ensures.steps in
    let first = step ∙ ap (λ z. z ∷ g.N.Nested.array_rest c.next.new.self) (sym c.as_nested.ensures) in
    refused _ _ _ _ _ _ _ c.from_residual-in_err-push_place-in_default.ensures.1
    (list_refused _ _ _ _ _ _ _ _ _ _ _ c.loop-item.invariant.0 first (memory_not _ _ _ (put_grows _ _ _ _ c.in_ok-place-in_default.ensures.puts.0)))

pub put_array-loop-item-preserved : goal.put_array-loop-item-preserved
put_array-loop-item-preserved g t c =
    let l = c.loop-item in
    let x = c.in_ok-place-in_default in
    let step = g.met.N.Nested.array_steps _ _ _ c.in-Some.ensures.steps in
    let first = step ∙ ap (λ z. z ∷ g.N.Nested.array_rest c.next.new.self) (sym c.as_nested.ensures) in
    let placed = c.in_ok-push_place-in_default.ensures.ok ∙ ap (λ z. z ++ place_bytes x.place) x.ensures.puts.1 in
    (list_goes_on _ _ _ _ _ _ _ _ _ _ _ l.invariant.0 first (x.place, x.ensures.puts.0, placed), omega (arith, l.invariant.1, ap (λ z. elements_size (elements z)) step), grows_then l.invariant.2 x.ensures.grows)

pub put_array-returns-in_err-put_single-in-Leaf-clause-puts : goal.put_array-returns-in_err-put_single-in-Leaf-clause-puts
put_array-returns-in_err-put_single-in-Leaf-clause-puts g t c =
    let step = g.met.N.Nested.array_steps _ _ _ c.in-Some.ensures.steps in
    let single = sym c.as_nested.ensures ∙ ap (nested_tree g.N.Nested.array_rest g.N.Nested.object_rest) c.in-Leaf.is in
    let first = step ∙ ap (λ z. z ∷ g.N.Nested.array_rest c.next.new.self) single in
    refused _ _ _ _ _ _ _ c.from_residual.ensures.1 (list_refused _ _ _ _ _ _ _ _ _ _ _ c.loop-item.invariant.0 first c.in_err-put_single-in-Leaf.ensures.err)

pub put_array-loop-item-preserved-in-Leaf : goal.put_array-loop-item-preserved-in-Leaf
put_array-loop-item-preserved-in-Leaf g t c =
    let l = c.loop-item in
    let step = g.met.N.Nested.array_steps _ _ _ c.in-Some.ensures.steps in
    let single = sym c.as_nested.ensures ∙ ap (nested_tree g.N.Nested.array_rest g.N.Nested.object_rest) c.in-Leaf.is in
    let first = step ∙ ap (λ z. z ∷ g.N.Nested.array_rest c.next.new.self) single in
    (list_goes_on _ _ _ _ _ _ _ _ _ _ _ l.invariant.0 first c.in_ok-put_single-in-Leaf.ensures.ok, omega (arith, l.invariant.1, ap (λ z. elements_size (elements z)) step), grows_then l.invariant.2 c.in_ok-put_single-in-Leaf.ensures.grows)

pub put_array-put_list-requires-clause-first : goal.put_array-put_list-requires-clause-first
put_array-put_list-requires-clause-first g t c = first_within _ _ _ _ _ _ c.loop-item.invariant.0.put (omega (arith, c.len-first.ensures.len))

pub put_array-returns-clause-puts : goal.put_array-returns-clause-puts
put_array-returns-clause-puts g t c =
    let done = g.met.N.Nested.array_steps _ _ _ c.in-None.ensures.steps in
    let start : c.len-first.result ≡ length c.args.places.now.items = omega (arith, c.len-first.ensures.len) in
    let e = c.put_list.ensures in
    list_puts _ _ _ _ _ _ _ _ _ _ _ c.loop-item.invariant.0 done.0 start e.ok e.places e.err

-- ---- objects

pub put_object-loop-key-init : goal.put_object-loop-key-init
put_object-loop-key-init g t c =
    let all = g.N.Nested.object_rest c.args.members in
    let old = c.args.heap.now.items in
    let start = c.args.places.now.items in
    let whole = ap g.N.Nested.object_rest c.into_iter-key-iterator.ensures.into_iter_gives in
    let opens = subst (λ z. ListOpen c.args.most Object old start (object (entries all)) old start (flat_entries z) × (entries_size (entries z) ≤ entries_size (entries all))) (sym whole) (list_opens _ _ _ _ _ c.requires.fits c.requires.most (members_make all), omega arith) in
    (opens.0, opens.1, grows_same _ _)

pub put_object-returns-in_err-put_single-clause-puts : goal.put_object-returns-in_err-put_single-clause-puts
put_object-returns-in_err-put_single-clause-puts g t c =
    let step = g.met.N.Nested.object_steps _ _ _ c.in-Some.ensures.steps in
    let keyed = step ∙ ap (λ k. (k, g.N.Nested.tree c.in-Some.item) ∷ g.N.Nested.object_rest c.next.new.self) (sym c.as_str.ensures) in
    refused _ _ _ _ _ _ _ c.from_residual.ensures.1 (list_refused _ _ _ _ _ _ _ _ _ _ _ c.loop-key.invariant.0 (ap flat_entries keyed) c.in_err-put_single.ensures.err)

pub put_object-returns-in_err-place-in_default-clause-puts : goal.put_object-returns-in_err-place-in_default-clause-puts
put_object-returns-in_err-place-in_default-clause-puts g t c =
    let step = g.met.N.Nested.object_steps _ _ _ c.in-Some.ensures.steps in
    let first = step ∙ ap (λ z. z ∷ g.N.Nested.object_rest c.next.new.self) (λ i. (sym c.as_str.ensures i, sym c.as_nested.ensures i)) in
    let keyed = list_goes_on _ _ _ _ _ _ _ _ _ _ _ c.loop-key.invariant.0 (ap flat_entries first) c.in_ok-put_single.ensures.ok in
    refused _ _ _ _ _ _ _ c.from_residual-in_err-place-in_default.ensures.1 (list_refused _ _ _ _ _ _ _ _ _ _ _ keyed refl c.in_err-place-in_default.ensures.puts)

pub put_object-returns-in_err-push_place-in_default-clause-puts : goal.put_object-returns-in_err-push_place-in_default-clause-puts
put_object-returns-in_err-push_place-in_default-clause-puts g t c =
    let step = g.met.N.Nested.object_steps _ _ _ c.in-Some.ensures.steps in
    let first = step ∙ ap (λ z. z ∷ g.N.Nested.object_rest c.next.new.self) (λ i. (sym c.as_str.ensures i, sym c.as_nested.ensures i)) in
    let keyed = list_goes_on _ _ _ _ _ _ _ _ _ _ _ c.loop-key.invariant.0 (ap flat_entries first) c.in_ok-put_single.ensures.ok in
    refused _ _ _ _ _ _ _ c.from_residual-in_err-push_place-in_default.ensures.1 (list_refused _ _ _ _ _ _ _ _ _ _ _ keyed refl (memory_not _ _ _ (put_grows _ _ _ _ c.in_ok-place-in_default.ensures.puts.0)))

pub put_object-loop-key-preserved : goal.put_object-loop-key-preserved
put_object-loop-key-preserved g t c =
    let l = c.loop-key in
    let x = c.in_ok-place-in_default in
    let step = g.met.N.Nested.object_steps _ _ _ c.in-Some.ensures.steps in
    let first = step ∙ ap (λ z. z ∷ g.N.Nested.object_rest c.next.new.self) (λ i. (sym c.as_str.ensures i, sym c.as_nested.ensures i)) in
    let keyed = list_goes_on _ _ _ _ _ _ _ _ _ _ _ l.invariant.0 (ap flat_entries first) c.in_ok-put_single.ensures.ok in
    let placed = c.in_ok-push_place-in_default.ensures.ok ∙ ap (λ z. z ++ place_bytes x.place) x.ensures.puts.1 in
    (list_goes_on _ _ _ _ _ _ _ _ _ _ _ keyed refl (x.place, x.ensures.puts.0, placed), omega (arith, l.invariant.1, ap (λ z. entries_size (entries z)) step), grows_then (grows_then l.invariant.2 c.in_ok-put_single.ensures.grows) x.ensures.grows)

pub put_object-returns-in_err-put_single-in-Leaf-clause-puts : goal.put_object-returns-in_err-put_single-in-Leaf-clause-puts
put_object-returns-in_err-put_single-in-Leaf-clause-puts g t c =
    let step = g.met.N.Nested.object_steps _ _ _ c.in-Some.ensures.steps in
    let single = sym c.as_nested.ensures ∙ ap (nested_tree g.N.Nested.array_rest g.N.Nested.object_rest) c.in-Leaf.is in
    let first = step ∙ ap (λ z. z ∷ g.N.Nested.object_rest c.next.new.self) (λ i. (sym c.as_str.ensures i, single i)) in
    let keyed = list_goes_on _ _ _ _ _ _ _ _ _ _ _ c.loop-key.invariant.0 (ap flat_entries first) c.in_ok-put_single.ensures.ok in
    refused _ _ _ _ _ _ _ c.from_residual-in_err-put_single-in-Leaf.ensures.1 (list_refused _ _ _ _ _ _ _ _ _ _ _ keyed refl c.in_err-put_single-in-Leaf.ensures.err)

pub put_object-loop-key-preserved-in-Leaf : goal.put_object-loop-key-preserved-in-Leaf
put_object-loop-key-preserved-in-Leaf g t c =
    let l = c.loop-key in
    let step = g.met.N.Nested.object_steps _ _ _ c.in-Some.ensures.steps in
    let single = sym c.as_nested.ensures ∙ ap (nested_tree g.N.Nested.array_rest g.N.Nested.object_rest) c.in-Leaf.is in
    let first = step ∙ ap (λ z. z ∷ g.N.Nested.object_rest c.next.new.self) (λ i. (sym c.as_str.ensures i, single i)) in
    let keyed = list_goes_on _ _ _ _ _ _ _ _ _ _ _ l.invariant.0 (ap flat_entries first) c.in_ok-put_single.ensures.ok in
    (list_goes_on _ _ _ _ _ _ _ _ _ _ _ keyed refl c.in_ok-put_single-in-Leaf.ensures.ok, omega (arith, l.invariant.1, ap (λ z. entries_size (entries z)) step), grows_then (grows_then l.invariant.2 c.in_ok-put_single.ensures.grows) c.in_ok-put_single-in-Leaf.ensures.grows)

pub put_object-put_list-requires-clause-first : goal.put_object-put_list-requires-clause-first
put_object-put_list-requires-clause-first g t c = first_within _ _ _ _ _ _ c.loop-key.invariant.0.put (omega (arith, c.len-first.ensures.len))

pub put_object-returns-clause-puts : goal.put_object-returns-clause-puts
put_object-returns-clause-puts g t c =
    let done = g.met.N.Nested.object_steps _ _ _ c.in-None.ensures.steps in
    let start : c.len-first.result ≡ length c.args.places.now.items = omega (arith, c.len-first.ensures.len) in
    let e = c.put_list.ensures in
    list_puts _ _ _ _ _ _ _ _ _ _ _ c.loop-key.invariant.0 (ap flat_entries done.0) start e.ok e.places e.err

-- ---- values of any kind

pub put_tree-returns-in-Leaf-clause-puts : goal.put_tree-returns-in-Leaf-clause-puts
put_tree-returns-in-Leaf-clause-puts g t c =
    let tree = nested_tree g.N.Nested.array_rest g.N.Nested.object_rest in
    subst (λ z. Puts c.args.most c.args.heap.now.items c.args.places.now.items (tree z) c.put_leaf.new.heap.items c.args.places.now.items c.put_leaf.result) (sym c.in-Leaf.is) (leaf_puts c.args.most _ _ _ _ _ c.put_leaf.ensures.ok c.put_leaf.ensures.err)

pub put_tree-returns-in-Array-clause-puts : goal.put_tree-returns-in-Array-clause-puts
put_tree-returns-in-Array-clause-puts g t c =
    let tree = nested_tree g.N.Nested.array_rest g.N.Nested.object_rest in
    subst (λ z. Puts c.args.most c.args.heap.now.items c.args.places.now.items (tree z) c.put_array.new.heap.items c.put_array.new.places.items c.put_array.result) (sym c.in-Array.is) c.put_array.ensures.puts

pub put_tree-returns-in-Object-clause-puts : goal.put_tree-returns-in-Object-clause-puts
put_tree-returns-in-Object-clause-puts g t c =
    let tree = nested_tree g.N.Nested.array_rest g.N.Nested.object_rest in
    subst (λ z. Puts c.args.most c.args.heap.now.items c.args.places.now.items (tree z) c.put_object.new.heap.items c.put_object.new.places.items c.put_object.result) (sym c.in-Object.is) c.put_object.ensures.puts
