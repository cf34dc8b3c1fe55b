use Rattle.std.proofs.Common.{◌∷◌, ap, ◌∙◌}
use Rattle.json.specs.Token.{begin_array, begin_object}
use Rattle.tv_value.specs.JsonOf.{json_of}
use Rattle.tv_json.specs.Open.{list_left}
use Rattle.tv_json.specs.Rising.{data_tokens}
use Rattle.tv_json.proofs.OpenLists.{array_tokens, list_opened}
use Rattle.tv_json.proofs.open_lists.begin.Goals as goal

pub returns-in_ok-push-in-Array-clause-ok : goal.returns-in_ok-push-in-Array-clause-ok
returns-in_ok-push-in-Array-clause-ok g c =
    let left = list_left {K = g.row.N-Key.Denot} g.N.Nested.tree g.N.Nested.array_rest g.N.Nested.object_rest in
    let whole = ap (λ ts. begin_array ∷ ts) (array_tokens (g.N.Nested.array_rest c.in-Array.items)) ∙ ap (λ t. data_tokens (json_of t)) c.in-Array.ensures in
    list_opened left _ _ _ begin_array _ _ _ c.in_ok-begin_array-in-Array.ensures.ok c.in_ok-push-in-Array.ensures.items whole

pub returns-in_ok-push-in-Object-clause-ok : goal.returns-in_ok-push-in-Object-clause-ok
returns-in_ok-push-in-Object-clause-ok g c =
    let left = list_left {K = g.row.N-Key.Denot} g.N.Nested.tree g.N.Nested.array_rest g.N.Nested.object_rest in
    list_opened left _ _ _ begin_object _ _ _ c.in_ok-begin_object-in-Object.ensures.ok c.in_ok-push-in-Object.ensures.items c.in_ok-rest-in-Object.ensures

pub returns-in_err-begin_array-in-Array-clause-before : goal.returns-in_err-begin_array-in-Array-clause-before
returns-in_err-begin_array-in-Array-clause-before g c = c.begin_array.ensures.room.0

pub returns-in_err-push-in-Array-clause-before : goal.returns-in_err-push-in-Array-clause-before
returns-in_err-push-in-Array-clause-before g c = c.begin_array.ensures.room.0

pub returns-in_ok-push-in-Array-clause-before : goal.returns-in_ok-push-in-Array-clause-before
returns-in_ok-push-in-Array-clause-before g c = c.begin_array.ensures.room.0

pub returns-in_err-begin_object-in-Object-clause-before : goal.returns-in_err-begin_object-in-Object-clause-before
returns-in_err-begin_object-in-Object-clause-before g c = c.begin_object.ensures.room.0

pub returns-in_err-push-in-Object-clause-before : goal.returns-in_err-push-in-Object-clause-before
returns-in_err-push-in-Object-clause-before g c = c.begin_object.ensures.room.0

pub returns-in_ok-push-in-Object-clause-before : goal.returns-in_ok-push-in-Object-clause-before
returns-in_ok-push-in-Object-clause-before g c = c.begin_object.ensures.room.0

pub returns-in-Leaf-clause-before : goal.returns-in-Leaf-clause-before
returns-in-Leaf-clause-before g c = c.write_leaf.ensures.before
