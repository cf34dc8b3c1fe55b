use Rattle.std.proofs.Common.{map, sym, ap, subst}
use Rattle.tv_value.specs.Children.{IsListOf, without_key, with_key}
use Rattle.tv_value.specs.Lent.{nested_tree}
use Rattle.tv_value.proofs.ListChildren.{list_of_items, list_of_members}
use Rattle.tv_value.proofs.nested.NestedValue.into_children.Goals as goal

pub returns-in-Array-clause-list : goal.returns-in-Array-clause-list
returns-in-Array-clause-list g c =
    let items = g.N.Nested.array_rest c.in-Array.items in
    subst (IsListOf (map without_key items)) (sym (ap (nested_tree g.N.Nested.array_rest g.N.Nested.object_rest) c.in-Array.is)) (list_of_items items)

pub returns-in-Object-clause-list : goal.returns-in-Object-clause-list
returns-in-Object-clause-list g c =
    let members = g.N.Nested.object_rest c.in-Object.members in
    subst (IsListOf (map with_key members)) (sym (ap (nested_tree g.N.Nested.array_rest g.N.Nested.object_rest) c.in-Object.is)) (list_of_members members)
