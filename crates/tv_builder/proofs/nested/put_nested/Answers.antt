use Rattle.std.proofs.Common.{reverse, refl, sym, ◌∙◌, ap, subst, arith}
use Rattle.std.proofs.lemmas.List.{nil_from_length}
use Rattle.tv_format.specs.Size.{size}
use Rattle.tv_value.specs.Children.{children_size}
use Rattle.tv_value.specs.Lent.{nested_tree}
use Rattle.tv_value.proofs.ListChildren.{list_size}
use Rattle.tv_base.proofs.Growing.{grows_then}
use Rattle.tv_builder.specs.Nested.{flat, ChildPut}
use Rattle.tv_builder.specs.Whole.{PutNot}
use Rattle.tv_builder.specs.declared.errors.AddError.TheVariants.{Memory}
use Rattle.tv_builder.proofs.Giving.{prefix_same}
use Rattle.tv_builder.proofs.NestedLists.{Around, around_refused, opens, goes_on, child_next, pushed, outer_goes_on, outermost_closes, left_size}
use Rattle.tv_builder.proofs.Putting.{first_within, grows_same, key_refused, list_closes, list_refused, memory_not, own_refused, put_grows, refused}
use Rattle.tv_builder.proofs.nested.put_nested.Goals as goal

pub lists-init : goal.lists-init
lists-init g c =
    let items = g.N.Nested.array_rest in
    let members = g.N.Nested.object_rest in
    let old = c.args.heap.now.items in
    let start = c.args.places.now.items in
    let t = nested_tree items members c.args.value in
    let alone = subst (λ os. Around {N = g.row.N.Denot} {K = g.row.N-Key.Denot} c.args.most items members old start t os old start t) (sym (ap reverse c.new-around.ensures.items)) (refl, refl, refl) in
    (opens _ _ _ _ _ _ c.requires.fits c.requires.most alone (omega (arith, c.in-Ok.ensures.first, c.len.ensures.len)) c.in-Ok.ensures.kind c.in-Ok.ensures.children, grows_same _ _)

-- ---- a child

pub returns-in_err-put_key-clause-puts : goal.returns-in_err-put_key-clause-puts
returns-in_err-put_key-clause-puts g c =
    let s = c.lists.invariant.0 in
    let not = key_refused _ _ _ _ _ _ _ _ _ _ _ _ s.list c.in-Some.ensures.steps c.in_err-put_key.ensures.err in
    refused _ _ _ _ _ _ _ c.from_residual.ensures.1 (around_refused _ _ _ _ _ _ _ _ _ _ _ s.around not)

pub put_single-requires : goal.put_single-requires
put_single-requires g c =
    let next = child_next _ _ _ _ _ _ _ _ _ _ _ c.lists.invariant.0 c.in-Some.ensures.steps c.in_ok-put_key.ensures.ok in
    record { fits = next.list.put.fits; most = c.requires.most }

pub returns-in_err-put_single-in-Err-open_list-clause-puts : goal.returns-in_err-put_single-in-Err-open_list-clause-puts
returns-in_err-put_single-in-Err-open_list-clause-puts g c =
    let next = child_next _ _ _ _ _ _ _ _ _ _ _ c.lists.invariant.0 c.in-Some.ensures.steps c.in_ok-put_key.ensures.ok in
    let single = sym c.as_nested.ensures ∙ c.in-Err-open_list.ensures.leaf in
    let not = subst (λ z. PutNot c.args.most c.put_key.new.heap.items z c.put_single.new.heap.items c.in_err-put_single-in-Err-open_list.field-0.0) (sym single) c.in_err-put_single-in-Err-open_list.ensures.err in
    refused _ _ _ _ _ _ _ c.from_residual-in_err-put_single-in-Err-open_list.ensures.1 (around_refused _ _ _ _ _ _ _ _ _ _ _ next.around (list_refused _ _ _ _ _ _ _ _ _ _ _ next.list refl not))

pub lists-smaller-in-Err-open_list : goal.lists-smaller-in-Err-open_list
lists-smaller-in-Err-open_list g c = omega (arith, ap children_size c.in-Some.ensures.steps)

pub lists-preserved-in-Err-open_list : goal.lists-preserved-in-Err-open_list
lists-preserved-in-Err-open_list g c =
    let next = child_next _ _ _ _ _ _ _ _ _ _ _ c.lists.invariant.0 c.in-Some.ensures.steps c.in_ok-put_key.ensures.ok in
    let single = sym c.as_nested.ensures ∙ c.in-Err-open_list.ensures.leaf in (
      goes_on _ _ _ _ _ _ _ _ _ next refl (subst (λ z. ChildPut c.args.most c.put_key.new.heap.items c.put_key.new.places.items z c.put_single.new.heap.items c.put_single.new.places.items) (sym single) c.in_ok-put_single-in-Err-open_list.ensures.ok),
      grows_then (grows_then c.lists.invariant.1 c.in_ok-put_key.ensures.grows) c.in_ok-put_single-in-Err-open_list.ensures.grows,
    )

-- ---- a list within

pub returns-in_err-push_list-in-Ok-open_list-clause-puts : goal.returns-in_err-push_list-in-Ok-open_list-clause-puts
returns-in_err-push_list-in-Ok-open_list-clause-puts g c =
    let next = child_next _ _ _ _ _ _ _ _ _ _ _ c.lists.invariant.0 c.in-Some.ensures.steps c.in_ok-put_key.ensures.ok in
    let not = memory_not c.put_key.new.heap.items c.put_key.new.heap.items (g.N.Nested.tree c.in-Some.child) (prefix_same _ _ refl) in
    refused _ _ _ _ _ _ Memory c.from_residual-in_err-push_list-in-Ok-open_list.ensures.1 (around_refused _ _ _ _ _ _ _ _ _ _ _ next.around (list_refused _ _ _ _ _ _ _ _ _ _ _ next.list refl not))

pub lists-smaller-in-Ok-open_list : goal.lists-smaller-in-Ok-open_list
lists-smaller-in-Ok-open_list g c =
    let left = left_size {N = g.row.N.Denot} {K = g.row.N-Key.Denot} g.N.Nested.array_rest g.N.Nested.object_rest in
    let inner = list_size _ _ c.in-Ok-open_list.ensures.children in
    omega (arith, ap children_size c.in-Some.ensures.steps, ap left (pushed _ _ _ c.in_ok-push_list-in-Ok-open_list.ensures), inner, ap size c.as_nested.ensures)

pub lists-preserved-in-Ok-open_list : goal.lists-preserved-in-Ok-open_list
lists-preserved-in-Ok-open_list g c =
    let items = g.N.Nested.array_rest in
    let members = g.N.Nested.object_rest in
    let next = child_next _ _ _ _ _ _ _ _ _ _ _ c.lists.invariant.0 c.in-Some.ensures.steps c.in_ok-put_key.ensures.ok in
    let around = Around {N = g.row.N.Denot} {K = g.row.N-Key.Denot} c.args.most items members c.args.heap.now.items c.args.places.now.items (nested_tree items members c.args.value) in
    let inner = subst (λ os. around os c.put_key.new.heap.items c.put_key.new.places.items (g.N.Nested.tree c.in-Some.child)) (sym (pushed _ _ _ c.in_ok-push_list-in-Ok-open_list.ensures)) next in
    let seen = subst (around (reverse c.push_list.new.lists.items) c.put_key.new.heap.items c.put_key.new.places.items) (sym c.as_nested.ensures) inner in (
      opens _ _ _ _ _ _ next.list.put.fits c.requires.most seen (omega (arith, c.in-Ok-open_list.ensures.first, c.len-in-Some.ensures.len)) c.in-Ok-open_list.ensures.kind c.in-Ok-open_list.ensures.children,
      grows_then c.lists.invariant.1 c.in_ok-put_key.ensures.grows,
    )

-- ---- the end of a list

pub put_list-requires-clause-first : goal.put_list-requires-clause-first
put_list-requires-clause-first g c = first_within _ _ _ _ _ _ c.lists.invariant.0.list.put c.lists.invariant.0.begins

pub returns-in_err-place-clause-puts : goal.returns-in_err-place-clause-puts
returns-in_err-place-clause-puts g c =
    let s = c.lists.invariant.0 in
    refused _ _ _ _ _ _ _ c.from_residual-in_err-place.ensures.1 (around_refused _ _ _ _ _ _ _ _ _ _ _ s.around (own_refused _ _ _ _ _ _ _ _ _ _ s.list (ap flat c.in_default.ensures.steps.0) s.begins c.in_err-place.ensures.err))

pub returns-in_default-pop-clause-puts : goal.returns-in_default-pop-clause-puts
returns-in_default-pop-clause-puts g c =
    let l = c.lists in
    outermost_closes _ _ _ _ _ l.around.items _ _ _ _ _ _ _ _ l.invariant.0 (ap flat c.in_default.ensures.steps.0) (nil_from_length l.around.items (omega (arith, c.in_default-pop.ensures.cases.0, l.around.ok.0))) c.in_ok-place.ensures.ok c.in_ok-place.ensures.places

pub returns-in_err-push_place-clause-puts : goal.returns-in_err-push_place-clause-puts
returns-in_err-push_place-clause-puts g c =
    let s = c.lists.invariant.0 in
    let closed = list_closes _ _ _ _ _ _ _ _ _ _ _ s.list (ap flat c.in_default.ensures.steps.0) s.begins c.in_ok-place.ensures.ok c.in_ok-place.ensures.places in
    refused _ _ _ _ _ _ Memory c.from_residual-in_err-push_place.ensures.1 (around_refused _ _ _ _ _ _ _ _ _ _ _ s.around (memory_not _ _ _ (put_grows _ _ _ _ closed.0)))

pub lists-smaller : goal.lists-smaller
lists-smaller g c =
    let left = left_size {N = g.row.N.Denot} {K = g.row.N-Key.Denot} g.N.Nested.array_rest g.N.Nested.object_rest in
    omega (arith, ap left (pushed _ _ _ c.in-Some-pop.ensures.items))

pub lists-preserved : goal.lists-preserved
lists-preserved g c = (
  outer_goes_on _ _ _ _ _ _ _ c.in-Some-pop.outer _ _ _ _ _ _ _ _ _ c.lists.invariant.0 (ap flat c.in_default.ensures.steps.0) c.in-Some-pop.ensures.items c.in_ok-place.ensures.ok c.in_ok-place.ensures.places c.in_ok-push_place.ensures.ok,
  grows_then c.lists.invariant.1 c.in_ok-place.ensures.grows,
)
