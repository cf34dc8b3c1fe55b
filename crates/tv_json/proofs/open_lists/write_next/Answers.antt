use Rattle.std.proofs.Common.{refl, subst, ◌∙◌}
use Rattle.std.proofs.lemmas.Result.{on_ok_weaker}
use Rattle.tv_json.specs.Open.{closing, list_left, rest_left, TakesNext}
use Rattle.tv_json.proofs.OpenLists.{child_begun}
use Rattle.tv_json.proofs.open_lists.write_next.Goals as goal

pub returns-in-Some-clause-ok : goal.returns-in-Some-clause-ok
returns-in-Some-clause-ok g c =
    let left = list_left {K = g.row.N-Key.Denot} g.N.Nested.tree g.N.Nested.array_rest g.N.Nested.object_rest in
    let rest = rest_left {K = g.row.N-Key.Denot} g.N.Nested.tree g.N.Nested.array_rest g.N.Nested.object_rest in
    let was = rest c.args.list.rest in
    let is = rest c.next_child.new.rest in
    let taken = subst (TakesNext g.N.Nested.tree c.args.json.now.out.tokens c.next_child.new.json.out.tokens was is) c.in-Some.is c.in_ok-child.ensures.ok in
    on_ok_weaker c.begin.result
    (child_begun left _ _ _ _ taken.0 _ (closing c.args.list.is_object) was is _ _ _ taken.1 taken.2 refl c.in_ok-push.ensures.items)
    c.begin.ensures.ok

pub returns-in_err-child-clause-before : goal.returns-in_err-child-clause-before
returns-in_err-child-clause-before g c = c.next_child.ensures.before

pub returns-in_err-push-clause-before : goal.returns-in_err-push-clause-before
returns-in_err-push-clause-before g c = c.next_child.ensures.before

pub returns-in-Some-clause-before : goal.returns-in-Some-clause-before
returns-in-Some-clause-before g c = c.begin.ensures.before ∙ c.next_child.ensures.before

pub returns-then-is_object-clause-before : goal.returns-then-is_object-clause-before
returns-then-is_object-clause-before g c = c.end_object.ensures.room.0 ∙ c.next_child.ensures.before

pub returns-clause-before : goal.returns-clause-before
returns-clause-before g c = c.end_array.ensures.room.0 ∙ c.next_child.ensures.before
