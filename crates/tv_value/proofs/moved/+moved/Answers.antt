use Rattle.std.proofs.Common.{◌≡◌, [], refl, sym, ap, ◌∙◌, string_bytes}
use Rattle.std.specs.Vec.Iter.{into_iter_items}
use Rattle.serde_json.specs.View.{view as data_of, items_view, members_view}
use Rattle.tv_value.specs.JsonTree.{whole_elements, whole_entries}
use Rattle.tv_value.proofs.MovedJson.{Member, elements_before, entries_before, elements_alone, entries_alone, item_made, member_made, none_left}
use Rattle.tv_value.proofs.moved.+moved.Goals as goal

pub moved_items-loop-item-preserved : goal.moved_items-loop-item-preserved
moved_items-loop-item-preserved t c =
    let l = c.loop-item in
    let rest = items_view (into_iter_items c.next.new.self) in
    l.invariant ∙ ap (λ ys. elements_before l.made.items (whole_elements (items_view ys))) c.in-Some.ensures.steps.0
    ∙ item_made l.made.items c.in_ok-moved.field-0 (data_of c.in-Some.item) rest c.in_ok-moved.ensures
    ∙ ap (λ vs. elements_before vs (whole_elements rest)) (sym c.in_ok-push.ensures.items)

pub moved_items-returns : goal.moved_items-returns
moved_items-returns t c =
    let l = c.loop-item in
    let none : into_iter_items l.item-iterator ≡ [] = none_left _ (sym l.item-iterator.rest.ok.0 ∙ c.in-None.ensures.steps.0) in
    sym (l.invariant ∙ ap (λ ys. elements_before l.made.items (whole_elements (items_view ys))) none ∙ elements_alone l.made.items)

pub moved_members-loop-key-preserved : goal.moved_members-loop-key-preserved
moved_members-loop-key-preserved t c =
    let l = c.loop-key in
    let m : Member = (c.in-Some.key, c.in_ok-moved.field-0) in
    let rest = members_view c.next.new.self in
    l.invariant ∙ ap (λ ms. entries_before l.made.items (whole_entries (members_view ms))) c.in-Some.ensures.steps
    ∙ member_made l.made.items m (string_bytes c.in-Some.key) (data_of c.in-Some.member) rest refl c.in_ok-moved.ensures
    ∙ ap (λ ms. entries_before ms (whole_entries rest)) (sym c.in_ok-push.ensures.items)

pub moved_members-returns : goal.moved_members-returns
moved_members-returns t c =
    let l = c.loop-key in
    sym (l.invariant ∙ ap (λ ms. entries_before l.made.items (whole_entries (members_view ms))) c.in-None.ensures.steps.0 ∙ entries_alone l.made.items)
